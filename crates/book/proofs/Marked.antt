-- The proofs of specs/Marked.antt.
use Prim.Native.Nat.{ℕ, ◌+◌, ◌-◌}
use mathlib.Core.Path.{◌≡◌, refl}
use mathlib.Core.Bool.{Bool, true, false}
use mathlib.Core.List.{List, [], ◌∷◌}
use mathlib.Core.Logic.{◌⊎◌, inl, inr}
use native.Mathlib.Omega.{arith}
use borrow.Author.Tests.{le-leb, lt-leb, leb-true}
use lib.Dec.{leb, eqb}
use Rattle.plate.specs.Choice.{pick}
use Rattle.media_type.specs.MediaType.{known_type}
use Rattle.media_type.proofs.Laws.{known_under}
use Rattle.field.specs.Field.{has_mark, is_even, is_field}
use Rattle.book.specs.Book.{sound_type, stands, judge_book, is_of, first_in}
use Rattle.book.specs.Marked.{judge_plain, first_plain, AllPlain, Marked}
use Rattle.book.specs.declared.Entry.{Entry}

known_good : (byte number : ℕ) → known_type byte ≡ true → sound_type byte number ≡ true
unfolding sound_type has_mark
known_good byte number k = rw (lt-leb 64 byte (omega (arith, known_under byte k))) k

marked_good : (type number : ℕ) → known_type type ≡ true → is_even number ≡ true → sound_type (type + 64) number ≡ true
unfolding sound_type has_mark
marked_good type number k e = let z : type + 64 - 64 ≡ type = omega arith in rw (le-leb 64 (type + 64) (omega arith), z, k) e

good_only : (byte number : ℕ) → sound_type byte number ≡ true → (known_type byte ≡ true) ⊎ ((type : ℕ) × (known_type type ≡ true) × (byte ≡ type + 64) × (is_even number ≡ true))
unfolding sound_type has_mark
good_only byte number = go (leb 64 byte) refl (known_type (byte - 64)) refl
  where
    go : (m : Bool) → leb 64 byte ≡ m → (k : Bool) → known_type (byte - 64) ≡ k → pick m (pick k (is_even number) false) (known_type byte) ≡ true
        → (known_type byte ≡ true) ⊎ ((type : ℕ) × (known_type type ≡ true) × (byte ≡ type + 64) × (is_even number ≡ true))
    go false p k q e = inl e
    go true p true q e = inr (byte - 64, q, omega (arith, leb-true 64 byte p), e)
    go true p false q e = absurd (let z : ◌≡◌ {A = ℕ} 0 1 = cc in omega arith)

-- a record without the mark is good, and of a field, as 01 has it
plain_type : (byte number : ℕ) → has_mark byte ≡ false → sound_type byte number ≡ known_type byte
unfolding sound_type
plain_type byte number m = rw m

plain_field : (number field : ℕ) → is_field false number field ≡ eqb number field
unfolding is_field
plain_field number field = go (eqb number field)
  where
    go : (b : Bool) → pick b true false ≡ b
    go true = refl
    go false = refl

plain_judged : (n last : ℕ) (es : List Entry) (whole : Bool) → AllPlain es → judge_book n last es whole ≡ judge_plain n last es whole
unfolding judge_book judge_plain stands
plain_judged n last [] whole a = refl
plain_judged n last (e ∷ es) whole a = rw (plain_type e.media_type e.field a.0, plain_judged (n + 1) e.at es whole a.1)

plain_first : (track field : ℕ) (es : List Entry) → AllPlain es → first_in track field es ≡ first_plain track field es
unfolding first_in first_plain is_of
plain_first track field [] a = refl
plain_first track field (e ∷ es) a = rw (a.0, plain_field e.field field, plain_first track field es a.1)

pub marked : Marked
marked =
    record {
      known = known_good;
      marked = marked_good;
      only = good_only;
      plain = λ b a track field. rw (plain_judged 0 0 b.list b.end a, plain_first track field b.list a);
    }
