-- Which numbers the refusal of a look-up can have: 16 and 23; no bytes lack with them.
use Prim.Native.Nat.{ℕ}
use mathlib.Core.Path.{◌≡◌, refl, subst}
use mathlib.Core.List.{List}
use native.Mathlib.Omega.{arith}
use Rattle.std.specs.Prelude.{Result, Ok, Err}
use Rattle.plate.specs.declared.Refusal.{Refusal}
use Rattle.plate.proofs.Numbers.{Among}
use Rattle.book.specs.Book.{book_of, Verdict, good, bad, judge_book, Offset, nothing, there, first_in, or_not_there, if_good, lookup_of}

abbrev OfLookup : Result ℕ Refusal → Type 0
OfLookup (Ok o) = Unit {0}
OfLookup (Err r) = Among 16 23 r

lookup_numbers : (s : List ℕ) (track field : ℕ) → OfLookup (lookup_of s track field)
unfolding lookup_of
lookup_numbers s track field = go (judge_book 0 0 (book_of s).list (book_of s).end) (first_in track field (book_of s).list)
  where
    go : (v : Verdict) (o : Offset) → OfLookup (if_good v (or_not_there o))
    go (bad n) o = (omega arith, omega arith, λ n. refl)
    go good (there o) = tt
    go good nothing = (omega arith, omega arith, λ n. refl)

pub lookup_refused : (s : List ℕ) (track field : ℕ) (r : Refusal) → lookup_of s track field ≡ Err r → Among 16 23 r
lookup_refused s track field r e = subst OfLookup e (lookup_numbers s track field)
