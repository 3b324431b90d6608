-- What the map writer refuses of what it is given (RDD 14, clause 7.1, Tables 3 to 6; 01, "Writers"; 02, §12): 24, then 11, then 10, then 29.
use Rattle.std.specs.Prelude.{ℕ, ◌+◌, ◌%◌, List, [], ◌∷◌, ◌++◌, Bool, true, false, length, take, drop, ltb, leb, eqb, Option, Some, None}
use Rattle.plate.specs.Choice.{pick}
use Rattle.plate.specs.Plate.{number_of}
use Rattle.plate.specs.declared.Fault.{Fault}
use Rattle.plate.specs.declared.Fault.TheVariants as fault
use Rattle.text.specs.Text.{text_ok}
use Rattle.media_type.specs.MediaType.{known_type, wrong_form}
use Rattle.map_items.specs.Judge.{has}
use Rattle.map_answer.specs.Answer.{allowed}
use Rattle.map_given.specs.Given.{material_slots, Given, tracks_given}
use Rattle.map_given.specs.declared.Slot.{Slot}

-- what a tag's slot holds: 40, 4C and 4F a text and 4D eight bytes, both as a part of the lent text; 41 to 45 and 4E a number; 50 to 52 a code
unfoldable pub is_text : ℕ → Bool
is_text tag = has tag (0x40 ∷ 0x4C ∷ 0x4F ∷ [])

unfoldable pub is_eight : ℕ → Bool
is_eight tag = eqb tag 0x4D

-- no slot has a tag over 52
unfoldable pub is_code : ℕ → Bool
is_code tag = leb 0x50 tag

-- −1 and −2 in 64 bits, or a value of Table 6
unfoldable pub code_fits : ℕ → ℕ → Bool
code_fits tag n = pick (eqb n 0xFFFFFFFFFFFFFFFF) true (pick (eqb n 0xFFFFFFFFFFFFFFFE) true (allowed tag n))

-- the part of the text that a slot names, and whether it lies in it
abbrev pub slot_part : List ℕ → Slot → List ℕ
slot_part text s = take s.second (drop s.first text)

abbrev pub inside : List ℕ → Slot → Bool
inside text s = leb (s.first + s.second) (length text)

-- whether a present slot holds what its field can hold: a text of up to 254 bytes and a 4D of eight, inside the lent text; a code that is none of the reserved; a number of 32 bits
unfoldable pub fits : List ℕ → Slot → Bool
fits text s =
    pick (is_text s.tag) (pick (ltb 254 s.second) false (inside text s))
    (pick (is_eight s.tag) (pick (eqb s.second 8) (inside text s) false)
    (pick (is_code s.tag) (code_fits s.tag s.first)
    (leb s.first 0xFFFFFFFF)))

-- whether a present slot's text keeps the text rule once its 00 is added
unfoldable pub reads : List ℕ → Slot → Bool
reads text s = pick (is_text s.tag) (text_ok (slot_part text s ++ (0 ∷ []))) true

-- a slot's fault, if it has one: 24, for a mark other than 0 and 1 too; then 11
unfoldable pub slot_fault : List ℕ → Slot → Option Fault
slot_fault text s =
    pick (eqb s.mark 0) None
    (pick (eqb s.mark 1) (pick (fits text s) (pick (reads text s) None (Some fault.Text)) (Some fault.Barred)) (Some fault.Barred))

-- of two faults, the one that is named: 24 goes before 11, and 11 before 10, which happens to be the order of the numbers, greatest first
abbrev pub graver : Option Fault → Option Fault → Option Fault
graver None b = b
graver (Some f) None = Some f
graver (Some f) (Some g) = Some (pick (ltb (number_of f) (number_of g)) g f)

unfoldable pub slots_fault : List ℕ → List Slot → Option Fault
slots_fault text [] = None
slots_fault text (s ∷ ss) = graver (slot_fault text s) (slots_fault text ss)

-- whether a tag is given, and whether a name is given and is the null name
unfoldable pub given : ℕ → List Slot → Bool
given tag [] = false
given tag (s ∷ ss) = pick (eqb s.tag tag) (eqb s.mark 1) (given tag ss)

unfoldable pub null_name : List Slot → Bool
null_name [] = false
null_name (s ∷ ss) = pick (eqb s.tag 0x4C) (pick (eqb s.mark 1) (eqb s.second 0) false) (null_name ss)

-- 4D, 4E or 4F beside a null name
unfoldable pub barred : List Slot → Bool
barred ss = pick (null_name ss) (pick (given 0x4D ss) true (pick (given 0x4E ss) true (given 0x4F ss))) false

-- a track's own fault: 24 for a type outside Table 5 and for what is barred; 10 for 4D beside 4F
unfoldable pub own_fault : Given → Option Fault
own_fault t =
    pick (known_type t.media_type)
    (pick (barred t.slots) (Some fault.Barred) (pick (given 0x4D t.slots) (pick (given 0x4F t.slots) (Some fault.Twice) None) None))
    (Some fault.Barred)

unfoldable pub tracks_fault : List ℕ → List Given → Option Fault
tracks_fault text [] = None
tracks_fault text (t ∷ ts) = graver (graver (own_fault t) (slots_fault text t.slots)) (tracks_fault text ts)

-- the fault of the IDs, after tracks of these: 24 for one over 63, 10 for one given twice
unfoldable pub id_fault : List ℕ → ℕ → Option Fault
id_fault ids id = pick (ltb 63 id) (Some fault.Barred) (pick (has id ids) (Some fault.Twice) None)

unfoldable pub ids_fault : List ℕ → List Given → Option Fault
ids_fault ids [] = None
ids_fault ids (t ∷ ts) = graver (id_fault ids t.id) (ids_fault (t.id ∷ ids) ts)

-- the fault of the whole input but for 29: 24 for words that are not one record of the material, or not whole records of tracks; else the gravest of slots, tracks and IDs
unfoldable pub fault_of : List ℕ → List ℕ → List ℕ → Option Fault
fault_of text ms ts =
    pick (eqb (length ms) 18)
    (pick (eqb (length ts % 23) 0)
    (graver (graver (slots_fault text (material_slots ms)) (tracks_fault text (tracks_given ts))) (ids_fault [] (tracks_given ts)))
    (Some fault.Barred))
    (Some fault.Barred)

-- a track that is given the wrong form; beside a null name either form is 24 already
unfoldable pub given_wrong : Given → Bool
given_wrong t = given (wrong_form t.media_type) t.slots

-- whether any track is: 29, where there is no 24, 11 or 10 (docs/DECISIONS.md, S13)
unfoldable pub any_wrong : List Given → Bool
any_wrong [] = false
any_wrong (t ∷ ts) = pick (given_wrong t) true (any_wrong ts)
