-- What the functions over one parameter rest on.
use Prim.Native.Nat.{ℕ, zero, suc, ◌+◌, ◌^◌, ◌<◌, ◌≤◌}
use mathlib.Core.Path.{◌≡◌, refl, sym, subst, ◌∙◌}
use mathlib.Core.Bool.{Bool, true, false, not}
use mathlib.Core.List.{List}
use native.Mathlib.Omega.{arith}
use borrow.Author.Tests.{leb-true, eqb-true, eqb-false}
use lib.ListN.{get_or}
use lib.Dec.{T, leb, eqb}
use lib.Ieee.{Float, nan, inf, fin, eq, is_nan}
use Rattle.std.specs.Prelude.{Option, Some, None}
use native.Mathlib.Numerals.{add-one}
use Rattle.plate.specs.Choice.{pick}
use Rattle.mpeg_parameter.specs.Table.{row_at, rate, least, most}
use Rattle.mpeg_decimal.specs.Decimal.{whole_of, rate_of}
use Rattle.mpeg_decimal.proofs.Laws.{whole_lt, rate_most}
use Rattle.mpeg_parameter.specs.Parameters.{amount_of, given, wanting, number_of, lacking}
use Rattle.mpeg_parameter.specs.declared.Row.{Row}

-- a line's number is at most 2^53
pub amount_most : (r : Row) (v : List ℕ) (n : ℕ) → amount_of r v ≡ Some n → n ≤ 2 ^ 53
unfolding amount_of
amount_most r v n = go (rate r)
  where
    go : (b : Bool) → pick b (rate_of v) (whole_of v) ≡ Some n → n ≤ 2 ^ 53
    go true e = rate_most v n e
    go false e = let w = whole_lt v n e in omega arith

-- a parameter's number is in the list, or 0
pub number_most : (r : Row) (slot : Option ℕ) → number_of r slot ≤ most r
unfolding number_of given
number_most r None = omega arith
number_most r (Some n) = go (leb (least r) n) (leb n (most r)) refl
  where
    go : (a b : Bool) → leb n (most r) ≡ b → pick (pick a b false) n 0 ≤ most r
    go true true q = leb-true n (most r) q
    go true false q = omega arith
    go false b q = omega arith

-- one row more
pub lacking_more : (slots : List (Option ℕ)) (k : ℕ) → lacking slots k ≡ false → wanting (row_at k) (get_or slots k None) ≡ false → lacking slots (k + 1) ≡ false
unfolding lacking
lacking_more slots k e w = rw add-one (simp (w, e))

-- a row that is wanting, and whatever rows follow
pub lacking_from : (slots : List (Option ℕ)) (k n : ℕ) → wanting (row_at k) (get_or slots k None) ≡ true → k < n → lacking slots n ≡ true
unfolding lacking
lacking_from slots k zero w h = absurd (omega arith)
lacking_from slots k (suc n) w h = go (wanting (row_at n) (get_or slots n None)) (eqb k n) refl refl (lacking_from slots k n w)
  where
    go : (a b : Bool) → wanting (row_at n) (get_or slots n None) ≡ a → eqb k n ≡ b → (k < n → lacking slots n ≡ true) → pick a true (lacking slots n) ≡ true
    go true b p q on = refl
    go false true p q on = absurd (let z : ◌≡◌ {A = Bool} true false = sym w ∙ rw (eqb-true k n q) p in let y : ◌≡◌ {A = ℕ} 0 1 = cc in omega arith)
    go false false p q on = on (let w = eqb-false k n q in omega arith)

-- where none of the first n rows is wanting, row k of them is not
pub none_wanting : (slots : List (Option ℕ)) (n : ℕ) → lacking slots n ≡ false → (k : ℕ) → k < n → wanting (row_at k) (get_or slots k None) ≡ false
unfolding lacking
none_wanting slots zero e k h = absurd (omega arith)
none_wanting slots (suc n) e k h = go (wanting (row_at n) (get_or slots n None)) (eqb k n) refl refl e (none_wanting slots n)
  where
    go : (a b : Bool) → wanting (row_at n) (get_or slots n None) ≡ a → eqb k n ≡ b → pick a true (lacking slots n) ≡ false
        → (lacking slots n ≡ false → (k : ℕ) → k < n → wanting (row_at k) (get_or slots k None) ≡ false) → wanting (row_at k) (get_or slots k None) ≡ false
    go true b p q e on = absurd (let z : ◌≡◌ {A = ℕ} 0 1 = cc in omega arith)
    go false true p q e on = rw (eqb-true k n q) p
    go false false p q e on = on e k (let w = eqb-false k n q in omega arith)

-- a rate that equals itself is a number, so that it has bits
pub no_nan : (x : Float) → eq x x ≡ true → T (not (is_nan x))
unfolding eq is_nan
no_nan nan h = subst T (sym h) tt
no_nan (inf s) h = tt
no_nan (fin s m e) h = tt
