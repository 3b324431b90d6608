-- The wrong auxiliary form in words (RDD 14, 7.1.3; 02, §12): which track has it and where, and the first of some tracks that has. That 29 is given there and nowhere else, and that no other verdict has changed, is proved in proofs/WrongForm.antt.
use Rattle.std.specs.Prelude.{ℕ, ◌+◌, ◌-◌, ◌≤◌, ◌≡◌, true, false, List, [], ◌∷◌, ◌++◌, ◌⊎◌, length, Result, Ok, Err, ⊤}
use Rattle.plate.specs.Plate.{number}
use Rattle.plate.specs.Choice.{pick}
use Rattle.plate.specs.declared.Refusal.{Refusal}
use Rattle.map_items.specs.Items.{Item, section_of, items_size}
use Rattle.map_items.specs.Judge.{bad, and_then, has, verdict_of}
use Rattle.map_items.specs.declared.Section.TheVariants as section
use Rattle.plate.specs.declared.Fault.TheVariants as fault
use Rattle.map_tracks.specs.Tracks.{Description, End, on_bytes, end_verdict, judge_tracks, is_listed}

-- an item among items, and those before and after it
pub record ItemIn (i : Item) (is : List Item) : Type 0 where
  pub before : List Item
  pub after : List Item
  pub split : is ≡ before ++ (i ∷ after)

-- the null name: a 4C with a lone 00
abbrev pub null_name : Item
null_name = record { tag = 0x4C; value = 0 ∷ [] }

-- the wrong tag, by 02's list of types: 4D on one of them, 4F on any other
abbrev pub mpeg_types : List ℕ
mpeg_types = 11 ∷ 12 ∷ 20 ∷ 22 ∷ 23 ∷ []

abbrev pub Mpeg : ℕ → Type 0
Mpeg media_type = has media_type mpeg_types ≡ true

abbrev pub WrongTag : ℕ → ℕ → Type 0
WrongTag media_type tag = (Mpeg media_type × (tag ≡ 0x4D)) ⊎ ((Mpeg media_type → ⊥) × (tag ≡ 0x4F))

-- a track whose type byte stands at p has the wrong form, its tag at q: the track is listed, it has no null name, before the item or behind it, and the item is one of its own
pub record WrongAt (p : ℕ) (d : Description) (q : ℕ) : Type 0 where
  pub listed : is_listed d ≡ true
  pub no_null_name : ItemIn null_name (section_of d.items).list → ⊥
  pub item : Item
  pub form : WrongTag (d.type_byte - 0x80) item.tag
  pub among : ItemIn item (section_of d.items).list
  pub place : q ≡ p + 4 + items_size among.before

abbrev pub RightForm : ℕ → Description → Type 0
RightForm p d = (q : ℕ) → WrongAt p d q → ⊥

-- a track that passes otherwise, at p, after tracks of these IDs: no 12, no 10 for its ID, and no 8, 9, 11 or 10 among its items
pub record Otherwise (ids : List ℕ) (p : ℕ) (d : Description) : Type 0 where
  pub type_byte : 0x80 ≤ d.type_byte
  pub id : 0xC0 ≤ d.id
  pub fresh : has d.id ids ≡ false
  pub items : verdict_of section.Track d.items (p + 4) ≡ (Ok tt)

-- where the track behind it begins
abbrev pub behind : ℕ → Description → ℕ
behind p d = p + 4 + length d.items

-- the first wrong form, at q: the tracks before its own pass, its own passes otherwise, and what comes behind is no matter
abbrev pub FirstWrong : List ℕ → ℕ → List Description → ℕ → Type 0
FirstWrong ids p [] q = ⊥
FirstWrong ids p (d ∷ ds) q = Otherwise ids p d × (WrongAt p d q ⊎ (RightForm p d × FirstWrong (d.id ∷ ids) (behind p d) ds q))

-- the verdict on tracks as 01 had it before 02, §12: no track is asked for its form
unfoldable pub judge_otherwise : List ℕ → ℕ → List Description → End → Result ⊤ Refusal
judge_otherwise ids p [] e = end_verdict p e
judge_otherwise ids p (d ∷ ds) e =
    on_bytes d.type_byte d.id p
    (pick (has d.id ids) (bad fault.Twice p)
    (and_then (verdict_of section.Track d.items (p + 4)) (judge_otherwise (d.id ∷ ids) (behind p d) ds e)))

-- of tracks from place p on, after tracks of these IDs, and how they end
pub record Judged29 (ids : List ℕ) (p : ℕ) (ds : List Description) (e : End) : Type 0 where
  -- 29 is given at the first wrong form, and only there
  pub given : (q : ℕ) → FirstWrong ids p ds q → judge_tracks ids p ds e ≡ bad fault.WrongForm q
  pub only : (r : Refusal) → judge_tracks ids p ds e ≡ Err r → number r ≡ 29 → FirstWrong ids p ds r.place
  -- and without one the verdict is what it was before, whatever it is; tracks have one or have none
  pub otherwise : ((q : ℕ) → FirstWrong ids p ds q → ⊥) → judge_tracks ids p ds e ≡ judge_otherwise ids p ds e
  pub either : ((q : ℕ) × FirstWrong ids p ds q) ⊎ ((q : ℕ) → FirstWrong ids p ds q → ⊥)
