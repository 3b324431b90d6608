-- What the reader knows in a map, by the lists of 01 ("Map") and of Tables 4, 5 and 6 alone, and parts in which there is nothing else (docs/DECISIONS.md, D20).
use Rattle.std.specs.Prelude.{ℕ, ◌-◌, ◌≡◌, Bool, true, false, List, [], ◌∷◌, length, eqb}
use Rattle.plate.specs.Choice.{pick}
use Rattle.number.specs.Number.{be}
use Rattle.map_items.specs.Items.{Item}
use Rattle.map_items.specs.Judge.{has}
use Rattle.map.specs.Encode.{TrackParts, MapParts}

-- a material item: its tag is one of Table 4
unfoldable pub known_material : Item → Bool
known_material i = has i.tag (0x40 ∷ 0x41 ∷ 0x42 ∷ 0x43 ∷ 0x44 ∷ 0x45 ∷ [])

-- four bytes that are −1, −2 or one of some codes
unfoldable pub meaningful : List ℕ → List ℕ → Bool
meaningful codes v = pick (eqb (length v) 4) (has (be v 0 4) (0xFFFFFFFF ∷ 0xFFFFFFFE ∷ codes)) false

-- a track's item: its tag is one of Table 6 and, of a rate (50), lines (51) or fields (52), its code has a meaning there
unfoldable pub known_item : Item → Bool
known_item i =
    pick (has i.tag (0x4C ∷ 0x4D ∷ 0x4E ∷ 0x4F ∷ [])) true
    (pick (eqb i.tag 0x50) (meaningful (1 ∷ 2 ∷ 3 ∷ 4 ∷ 5 ∷ 6 ∷ 7 ∷ 8 ∷ []) i.value)
    (pick (eqb i.tag 0x51) (meaningful (1 ∷ 2 ∷ 4 ∷ 6 ∷ []) i.value)
    (pick (eqb i.tag 0x52) (meaningful (1 ∷ 2 ∷ []) i.value) false)))

-- a track: its type byte is 80 and a type of Table 5
unfoldable pub known_track : TrackParts → Bool
known_track t =
    has (t.type_byte - 0x80)
    (3 ∷ 4 ∷ 7 ∷ 8 ∷ 9 ∷ 10 ∷ 11 ∷ 12 ∷ 13 ∷ 14 ∷ 15 ∷ 16 ∷ 17 ∷ 18 ∷ 20 ∷ 21 ∷ 22 ∷ 23 ∷ 24 ∷ 25 ∷ 26 ∷ [])

-- each of a list passes a test
abbrev pub Each : {A : Type 0} → (A → Bool) → List A → Type 0
Each test [] = Unit {0}
Each test (x ∷ xs) = (test x ≡ true) × Each test xs

abbrev pub EachItem : List TrackParts → Type 0
EachItem [] = Unit {0}
EachItem (t ∷ ts) = Each known_item t.items × EachItem ts

-- nothing unknown, no reserved code and no track of unknown type
pub record Clean (p : MapParts) : Type 0 where
  pub material : Each known_material p.material
  pub tracks : Each known_track p.tracks
  pub items : EachItem p.tracks

-- ys is what xs leaves, in order: one for each that is known, as `As` has it; none for the others
pub data Leaves {A : Type 0} (known : A → Bool) (As : A → A → Type 0) : List A → List A → Type 0 where
  none : Leaves known As [] []
  stays : {x y : A} {xs ys : List A} → known x ≡ true → As x y → Leaves known As xs ys → Leaves known As (x ∷ xs) (y ∷ ys)
  goes : {x : A} {xs ys : List A} → known x ≡ false → Leaves known As xs ys → Leaves known As (x ∷ xs) ys

abbrev pub Same : Item → Item → Type 0
Same i j = i ≡ j

-- a track with its type and ID bytes, and with its known items
pub record KeptTrack (t u : TrackParts) : Type 0 where
  pub type_byte : t.type_byte ≡ u.type_byte
  pub id : t.id ≡ u.id
  pub items : Leaves known_item Same t.items u.items

-- all that is known of p is in q, in order, and nothing else; the reserved bytes stay
pub record Kept (p q : MapParts) : Type 0 where
  pub spare : p.spare ≡ q.spare
  pub second : p.second ≡ q.second
  pub material : Leaves known_material Same p.material q.material
  pub tracks : Leaves known_track KeptTrack p.tracks q.tracks
