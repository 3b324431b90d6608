-- The track section (RDD 14, 7.1.3; 01, "Map"; 02, §12): taken apart by lengths alone, judged in walk order, and its listed tracks.
use Rattle.std.specs.Prelude.{ℕ, zero, suc, ◌+◌, ◌-◌, ◌*◌, Bool, List, [], ◌∷◌, ◌++◌, length, take, drop, set, ltb, leb, eqb, Option, Some, None, Result, Ok, ⊤}
use Rattle.plate.specs.Choice.{pick}
use Rattle.plate.specs.Ended.{Ended, none, in_front}
use Rattle.number.specs.Number.{be_bytes}
use Rattle.media_type.specs.MediaType.{known_type, wrong_form}
use Rattle.field.specs.Field.{type_with}
use Rattle.map_items.specs.Items.{Item, section_of}
use Rattle.map_items.specs.Find.{Found, missing, found, find, part_of}
use Rattle.map_items.specs.Judge.{bad, and_then, has, verdict_of}
use Rattle.map_items.specs.declared.Section.TheVariants as section
use Rattle.map_answer.specs.Answer.{value_of, code_of, is_progressive, is_null, track_of}
use Rattle.map_answer.specs.declared.Track.{Track}
use Rattle.plate.specs.declared.Refusal.{Refusal}
use Rattle.plate.specs.declared.Fault.TheVariants as fault

-- a track: its type byte, its ID byte and the bytes of its items
pub record Description : Type 0 where
  pub type_byte : ℕ
  pub id : ℕ
  pub items : List ℕ

-- how a section ends: where a track ends, with a header cut short, or with a track of that type and ID whose items pass it
pub data End : Type 0 where
  over : End
  short : End
  hangs : ℕ → ℕ → End

abbrev pub Descriptions : Type 0
Descriptions = Ended Description End

-- type, ID, a 16-bit length and that many bytes; f is more than the tracks that can follow
unfoldable pub split_tracks : ℕ → List ℕ → Descriptions
split_tracks zero s = none short
split_tracks (suc f) [] = none over
split_tracks (suc f) (k ∷ []) = none short
split_tracks (suc f) (k ∷ i ∷ []) = none short
split_tracks (suc f) (k ∷ i ∷ h ∷ []) = none short
split_tracks (suc f) (k ∷ i ∷ h ∷ l ∷ s) =
    pick (leb (h * 256 + l) (length s))
    (in_front (record { type_byte = k; id = i; items = take (h * 256 + l) s }) (split_tracks f (drop (h * 256 + l) s)))
    (none (hangs k i))

unfoldable pub tracks_of : List ℕ → Descriptions
tracks_of s = split_tracks (suc (length s)) s

-- the bytes that some tracks are
unfoldable pub descriptions_bytes : List Description → List ℕ
descriptions_bytes [] = []
descriptions_bytes (d ∷ ds) = d.type_byte ∷ d.id ∷ (be_bytes 2 (length d.items) ++ (d.items ++ descriptions_bytes ds))

-- 12: a type byte under 80 or an ID byte under C0
abbrev pub on_bytes : ℕ → ℕ → ℕ → Result ⊤ Refusal → Result ⊤ Refusal
on_bytes k i p next = pick (ltb k 0x80) (bad fault.TypeOrId p) (pick (ltb i 0xC0) (bad fault.TypeOrId p) next)

-- 29 at the tag of the wrong form, if it is found; a value begins two bytes behind its tag
abbrev pub on_form : Found → Result ⊤ Refusal
on_form missing = Ok tt
on_form (found q v) = bad fault.WrongForm (q - 2)

-- what a track must meet at its end, once its items have passed (02, §12): a listed track without a null name has no auxiliary item of the wrong form
unfoldable pub track_over : ℕ → List Item → ℕ → Result ⊤ Refusal
track_over type_byte is p =
    pick (known_type (type_byte - 0x80))
    (pick (is_null (part_of (find 0x4C p is))) (Ok tt) (on_form (find (wrong_form (type_byte - 0x80)) p is)))
    (Ok tt)

-- a track's items, from place p on, and its end
unfoldable pub track_verdict : ℕ → List ℕ → ℕ → Result ⊤ Refusal
track_verdict type_byte items p = and_then (verdict_of section.Track items p) (track_over type_byte (section_of items).list p)

-- the end of a section at place p: 8 for missing bytes, 12, 8 for overhang
unfoldable pub end_verdict : ℕ → End → Result ⊤ Refusal
end_verdict p over = Ok tt
end_verdict p short = bad fault.Overhang p
end_verdict p (hangs k i) = on_bytes k i p (bad fault.Overhang p)

-- tracks from place p on, after tracks of these IDs: 12, 10 for an ID seen before, listed or not, then the items and the track's end
unfoldable pub judge_tracks : List ℕ → ℕ → List Description → End → Result ⊤ Refusal
judge_tracks ids p [] e = end_verdict p e
judge_tracks ids p (d ∷ ds) e =
    on_bytes d.type_byte d.id p
    (pick (has d.id ids) (bad fault.Twice p)
    (and_then (track_verdict d.type_byte d.items (p + 4)) (judge_tracks (d.id ∷ ids) (p + 4 + length d.items) ds e)))

unfoldable pub tracks_verdict : List ℕ → ℕ → Result ⊤ Refusal
tracks_verdict s p = judge_tracks [] p (tracks_of s).list (tracks_of s).end

-- a track of known media type is listed
unfoldable pub is_listed : Description → Bool
is_listed d = known_type (d.type_byte - 0x80)

-- a track and the place of its type byte
pub record Placed : Type 0 where
  pub at : ℕ
  pub track : Description

-- the listed tracks, in map order
unfoldable pub listed : ℕ → List Description → List Placed
listed p [] = []
listed p (d ∷ ds) =
    pick (is_listed d) (record { at = p; track = d } ∷ listed (p + 4 + length d.items) ds) (listed (p + 4 + length d.items) ds)

-- the record of a track
unfoldable pub record_of : Placed → Track
record_of x = track_of x.track.type_byte x.track.id (x.at + 4) (section_of x.track.items).list

-- the record of the k-th, from 0
unfoldable pub kth_of : ℕ → List Placed → Option Track
kth_of k [] = None
kth_of zero (x ∷ xs) = Some (record_of x)
kth_of (suc k) (x ∷ xs) = kth_of k xs

-- the record of the listed track of an ID
unfoldable pub id_of : ℕ → List Placed → Option Track
id_of id [] = None
id_of id (x ∷ xs) = pick (eqb (x.track.id - 0xC0) id) (Some (record_of x)) (id_of id xs)

-- the marked type of a listed track: its media type, with the mark where its items say fields per frame 1 (02, §2); no name hides that item
unfoldable pub byte_of : ℕ → List ℕ → ℕ
byte_of type_byte items = type_with (is_progressive (code_of 0x52 (value_of (find 0x52 0 (section_of items).list)))) (type_byte - 0x80)

-- by ID, the marked type of the track that is listed under it, and 0 where none is
unfoldable pub types_of : List ℕ → List Description → List ℕ
types_of types [] = types
types_of types (d ∷ ds) = types_of (pick (is_listed d) (set types (d.id - 0xC0) (byte_of d.type_byte d.items)) types) ds
