-- What is struck from a map, and what is set in (01, "Map" and demand 3; docs/DECISIONS.md, D20, D21 and F13).
use Rattle.std.specs.Prelude.{ℕ, zero, suc, Bool, true, false, not, List, [], ◌∷◌, map}
use Rattle.plate.specs.Choice.{pick, within}
use Rattle.map_items.specs.Items.{Item}
use Rattle.map_items.specs.Find.{found}
use Rattle.map_items.specs.Judge.{form_of, is_known}
use Rattle.map_items.specs.declared.Section.TheVariants as section
use Rattle.map_answer.specs.Answer.{value_of, code_of}
use Rattle.map_answer.specs.declared.Code.{Code}
use Rattle.map_answer.specs.declared.Code.TheVariants as code
use Rattle.map.specs.Encode.{TrackParts, MapParts, encode}
use Rattle.map.specs.Parts.{listed_of, parts_of}

-- those that pass a test, in order
unfoldable pub kept : {A : Type 0} → (A → Bool) → List A → List A
kept stays [] = []
kept stays (x ∷ xs) = pick (stays x) (x ∷ kept stays xs) (kept stays xs)

-- a material item stays if its tag is known there
unfoldable pub material_stays : Item → Bool
material_stays i = is_known (form_of section.Material i.tag)

-- a code that has no meaning in Table 6 is reserved
unfoldable pub is_reserved : Code → Bool
is_reserved (code.Is n) = false
is_reserved code.NotApplicable = false
is_reserved code.NotAvailable = false
is_reserved code.Absent = true

-- a track's item stays if its tag is known there and, of a rate (50), line (51) or field (52) item, if its code is not reserved
unfoldable pub track_stays : Item → Bool
track_stays i =
    pick (is_known (form_of section.Track i.tag))
    (pick (within 0x50 0x52 i.tag) (not (is_reserved (code_of i.tag (value_of (found 0 i.value))))) true)
    false

unfoldable pub struck_track : TrackParts → TrackParts
struck_track t = record { type_byte = t.type_byte; id = t.id; items = kept track_stays t.items }

-- tracks of unknown media type go with all they hold; the reserved bytes stay
unfoldable pub struck : MapParts → MapParts
struck p =
    record {
      spare = p.spare;
      second = p.second;
      material = kept material_stays p.material;
      tracks = map struck_track (listed_of p.tracks);
    }

-- the rest, with true lengths and the fewest zeros
unfoldable pub strike : List ℕ → List ℕ
strike m = encode (struck (parts_of m))

-- an item boundary, from 0: of the material section, or of a track, listed or not; before the k-th item, or after the last
pub data Boundary : Type 0 where
  in_material : ℕ → Boundary
  in_track : ℕ → ℕ → Boundary

-- before the k-th; after the last where there is no k-th
unfoldable pub set_at : {A : Type 0} → ℕ → A → List A → List A
set_at zero x ys = x ∷ ys
set_at (suc k) x [] = x ∷ []
set_at (suc k) x (y ∷ ys) = y ∷ set_at k x ys

-- among the items of the j-th track, if there is one
unfoldable pub set_in_track : ℕ → ℕ → Item → List TrackParts → List TrackParts
set_in_track j k i [] = []
set_in_track zero k i (t ∷ ts) = record { type_byte = t.type_byte; id = t.id; items = set_at k i t.items } ∷ ts
set_in_track (suc j) k i (t ∷ ts) = t ∷ set_in_track j k i ts

unfoldable pub set_in_parts : Boundary → Item → MapParts → MapParts
set_in_parts (in_material k) i p = record { spare = p.spare; second = p.second; material = set_at k i p.material; tracks = p.tracks }
set_in_parts (in_track j k) i p = record { spare = p.spare; second = p.second; material = p.material; tracks = set_in_track j k i p.tracks }

-- the map with the item, with true lengths and the fewest zeros
unfoldable pub set_in : Boundary → Item → List ℕ → List ℕ
set_in b i m = encode (set_in_parts b i (parts_of m))
