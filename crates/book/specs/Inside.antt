-- What serves the code alone: the first word of a record, and a book from a record on.
use Rattle.std.specs.Prelude.{ℕ, suc, ◌-◌, ◌*◌, ◌/◌, ◌%◌, Bool, false, List, length, eqb, ltb, Option, Some, None}
use Rattle.plate.specs.Choice.{pick}
use Rattle.media_type.specs.MediaType.{known_type}
use Rattle.field.specs.Field.{is_even}
use Rattle.book.specs.Book.{Book, book_from, sound_type, Verdict, judge_book}

-- for the code alone: the first four bytes of a record, as one word, least significant first, are the marks, an ID up to 63 and a marked type that is good beside its number
unfoldable pub sound_head : ℕ → ℕ → Bool
sound_head h number = pick (eqb (h % 0x10000) 0x5847) (pick (ltb 63 (h / 0x10000 % 0x100)) false (sound_type (h / 0x1000000) number)) false

-- the same with a type that is known, and with one that is known and has the mark, beside an even number
unfoldable pub plain_head : ℕ → Bool
plain_head h = pick (eqb (h % 0x10000) 0x5847) (pick (ltb 63 (h / 0x10000 % 0x100)) false (known_type (h / 0x1000000))) false

unfoldable pub doubled_head : ℕ → ℕ → Bool
doubled_head h number = pick (ltb h 0x40000000) false (pick (is_even number) (plain_head (h - 0x40000000)) false)

-- of a record whose first word and number are good, whether it is of a field, whatever its track
unfoldable pub field_told : ℕ → ℕ → ℕ → Option Bool
field_told h number field =
    pick (plain_head h) (Some (eqb number field)) (pick (doubled_head h number) (Some (eqb (number / 2) (field / 2))) None)

-- and a book from record n on, where 16 times n is no more than its length
abbrev pub book_at : List ℕ → ℕ → Book
book_at s n = book_from s (suc (length s)) (n * 16)

abbrev pub verdict_from : List ℕ → ℕ → ℕ → Verdict
verdict_from s n last = judge_book n last (book_at s n).list (book_at s n).end
