-- What the mark of 02 §2 means in a lent book, in words, and that a book without it is read as 01 has it. Proved in proofs/Marked.antt.
use Rattle.std.specs.Prelude.{ℕ, ◌+◌, ◌≡◌, Bool, true, false, List, [], ◌∷◌, ◌⊎◌, eqb, ltb, Result}
use Rattle.plate.specs.Choice.{pick}
use Rattle.media_type.specs.MediaType.{known_type}
use Rattle.field.specs.Field.{has_mark, is_even}
use Rattle.book.specs.Book.{Book, rises_at, sound_type, Verdict, good, bad, Offset, nothing, there, or_not_there, if_good, lookup_in}
use Rattle.book.specs.declared.Entry.{Entry}
use Rattle.plate.specs.declared.Refusal.{Refusal}

-- 01's look-up: a known type, and the number itself
unfoldable pub judge_plain : ℕ → ℕ → List Entry → Bool → Verdict
judge_plain n last [] whole = pick whole good (bad n)
judge_plain n last (e ∷ es) whole =
    pick (pick (ltb 63 e.track) false (pick (known_type e.media_type) (rises_at n last e.at) false)) (judge_plain (n + 1) e.at es whole) (bad n)

unfoldable pub first_plain : ℕ → ℕ → List Entry → Offset
first_plain track field [] = nothing
first_plain track field (e ∷ es) = pick (pick (eqb e.track track) (eqb e.field field) false) (there e.at) (first_plain track field es)

abbrev pub lookup_plain : Book → ℕ → ℕ → Result ℕ Refusal
lookup_plain b track field = if_good (judge_plain 0 0 b.list b.end) (or_not_there (first_plain track field b.list))

-- no record of a book has the mark
abbrev pub AllPlain : List Entry → Type 0
AllPlain [] = Unit {0}
AllPlain (e ∷ es) = (has_mark e.media_type ≡ false) × AllPlain es

pub record Marked : Type 0 where
  -- a type byte is good where it is a known type, or a known type and 64 beside an even number; and nowhere else
  pub known : (byte number : ℕ) → known_type byte ≡ true → sound_type byte number ≡ true
  pub marked : (type number : ℕ) → known_type type ≡ true → is_even number ≡ true → sound_type (type + 64) number ≡ true
  pub only : (byte number : ℕ) → sound_type byte number ≡ true → (known_type byte ≡ true) ⊎ ((type : ℕ) × (known_type type ≡ true) × (byte ≡ type + 64) × (is_even number ≡ true))
  -- a book without any mark stays good, or bad at the same record, and answers by what it says
  pub plain : (b : Book) → AllPlain b.list → (track field : ℕ) → lookup_in b track field ≡ lookup_plain b track field
