-- The seek book (01, "Stream, seek, book"): the entries, their bytes, when a lent book is good, and lookup. A book is its list of entries; only the bytes know the layout.
use Rattle.std.specs.Prelude.{ℕ, zero, suc, ◌+◌, ◌-◌, Bool, true, false, List, [], ◌∷◌, ◌++◌, length, get_or, eqb, ltb, Result, Ok, Err}
use Rattle.plate.specs.Choice.{pick}
use Rattle.plate.specs.Ended.{Ended, none, in_front}
use Rattle.plate.specs.Plate.{refusal}
use Rattle.number.specs.Number.{le, le_bytes}
use Rattle.media_type.specs.MediaType.{known_type}
use Rattle.field.specs.Field.{has_mark, is_even, is_field}
use Rattle.book.specs.declared.Entry.{Entry}
use Rattle.plate.specs.declared.Refusal.{Refusal}
use Rattle.plate.specs.declared.Fault.TheVariants as fault

-- the encoder: mark 47 58, ID, marked type, field number (32), packet offset (64), least significant first; 16 bytes. It is for a field number under 2^32 and an offset under 2^64: more would be cut
unfoldable pub record_bytes : Entry → List ℕ
record_bytes e = 0x47 ∷ 0x58 ∷ e.track ∷ e.media_type ∷ (le_bytes 4 e.field ++ le_bytes 8 e.at)

unfoldable pub book_bytes : List Entry → List ℕ
book_bytes [] = []
book_bytes (e ∷ es) = record_bytes e ++ book_bytes es

-- what stands at a place: a record, or something else
pub data Slot : Type 0 where
  broken : Slot
  holds : Entry → Slot

-- what 16 bytes at a place say
abbrev pub said_at : List ℕ → ℕ → Entry
said_at s at = record { track = get_or s (at + 2) 0; media_type = get_or s (at + 3) 0; field = le s (at + 4) 4; at = le s (at + 8) 8 }

-- the decoder: what stands at a place, a record where 16 bytes with the marks are there; a short tail and a wrong mark are both no record
unfoldable pub record_at : List ℕ → ℕ → Slot
record_at s at =
    pick (ltb (length s - at) 16) broken
    (pick (eqb (get_or s at 0) 0x47)
    (pick (eqb (get_or s (at + 1) 0) 0x58)
    (holds (said_at s at))
    broken)
    broken)

-- a lent book taken apart: its entries up to its end, or up to something that is no record
abbrev pub Book : Type 0
Book = Ended Entry Bool

abbrev pub on_slot : Book → Slot → Book
on_slot rest broken = none false
on_slot rest (holds e) = in_front e rest

-- from a place on; f is more than the records that can follow
unfoldable pub book_from : List ℕ → ℕ → ℕ → Book
book_from s zero at = none false
book_from s (suc f) at = pick (ltb at (length s)) (on_slot (book_from s f (at + 16)) (record_at s at)) (none true)

unfoldable pub book_of : List ℕ → Book
book_of s = book_from s (suc (length s)) 0

-- offsets rise strictly: as record n, behind one of offset `last`; record 0 may have any
unfoldable pub rises_at : ℕ → ℕ → ℕ → Bool
rises_at n last offset = pick (eqb n 0) true (ltb last offset)

-- a marked type is good beside a number: a known type; or a known type and 64, and then the number is even (02, §2)
unfoldable pub sound_type : ℕ → ℕ → Bool
sound_type byte number = pick (has_mark byte) (pick (known_type (byte - 64)) (is_even number) false) (known_type byte)

-- a record may stand as record n: an ID up to 63, a good marked type, an offset that rises
unfoldable pub stands : ℕ → ℕ → Entry → Bool
stands n last e = pick (ltb 63 e.track) false (pick (sound_type e.media_type e.field) (rises_at n last e.at) false)

-- a book is good, or bad, with the number of its lowest bad record
pub data Verdict : Type 0 where
  good : Verdict
  bad : ℕ → Verdict

-- n records passed, the last at offset `last`: of two offsets that do not rise the later is bad; what is no record takes the number of those before it
unfoldable pub judge_book : ℕ → ℕ → List Entry → Bool → Verdict
judge_book n last [] whole = pick whole good (bad n)
judge_book n last (e ∷ es) whole = pick (stands n last e) (judge_book (n + 1) e.at es whole) (bad n)

-- of a track and a field: its own number or, with the mark, the number above; a known type and an even number are tested by `sound_type`
unfoldable pub is_of : ℕ → ℕ → Entry → Bool
is_of track field e = pick (eqb e.track track) (is_field (has_mark e.media_type) e.field field) false

-- an offset, if there is one
pub data Offset : Type 0 where
  nothing : Offset
  there : ℕ → Offset

-- the offset of the first entry of a track and field
unfoldable pub first_in : ℕ → ℕ → List Entry → Offset
first_in track field [] = nothing
first_in track field (e ∷ es) = pick (is_of track field e) (there e.at) (first_in track field es)

-- the first entry of the track and field, or 16
abbrev pub or_not_there : Offset → Result ℕ Refusal
or_not_there (there o) = Ok o
or_not_there nothing = Err (refusal fault.NotThere 0)

abbrev pub if_good : Verdict → Result ℕ Refusal → Result ℕ Refusal
if_good good a = a
if_good (bad n) a = Err (refusal fault.Book n)

-- look-up (docs/DECISIONS.md, F16): 23 first, its place the number of the record; then the offset, or 16 at 0. The offset before record 0 is not looked at
abbrev pub lookup_in : Book → ℕ → ℕ → Result ℕ Refusal
lookup_in b track field = if_good (judge_book 0 0 b.list b.end) (or_not_there (first_in track field b.list))

unfoldable pub lookup_of : List ℕ → ℕ → ℕ → Result ℕ Refusal
lookup_of s track field = lookup_in (book_of s) track field
