-- The table, computed once over its rows: how many there are, how long their identifiers, how large their values.
use Prim.Native.Nat.{ℕ, zero, suc, ◌+◌, ◌^◌, ◌<◌, ◌≤◌}
use mathlib.Core.Path.{◌≡◌, refl, sym, ◌∙◌, ap}
use mathlib.Core.Bool.{Bool, true, false}
use mathlib.Core.List.{List, [], ◌∷◌}
use native.Mathlib.Omega.{arith}
use native.Mathlib.Nat.{pow-succ', pow-le-pow_right}
use borrow.Author.Tests.{ltb-true, ltb-false, leb-true, ne_eqb, le-ltb}
use lib.ListN.{length, get_or}
use lib.Dec.{ltb, leb, eqb}
use mathlib.Core.Bool.{cond, not}
use Rattle.std.specs.Prelude.{Some, None}
use Rattle.std.specs.List.{position_or_len}
use Rattle.plate.specs.Choice.{pick}
use Rattle.number.specs.Number.{be}
use Rattle.mpeg_scan.specs.Scan.{run}
use Rattle.mpeg_scan.proofs.Laws.{run_all}
use Rattle.std.proofs.lemmas.List.{get_or_past}
use Rattle.mpeg_parameter.specs.Table.{table, name, rate, most, whole, row_at, other_row, row_for, row_of}
use Rattle.mpeg_parameter.specs.declared.Row.{Row}

pub rows : length table ≡ 14
unfolding table
rows = refl

-- a rate stays exact in a float, a whole number in 32 bits
fits : Row → Bool
fits r = pick (rate r) (leb (most r) (2 ^ 53)) (ltb (most r) (2 ^ 32))

all_fit : run fits table ≡ 14
unfolding run fits table
all_fit = refl

-- past the table stands a row that is nobody's
pub row_past : (k : ℕ) → 14 ≤ k → row_at k ≡ whole 0 false 0 0
unfolding row_at
row_past k h = get_or_past table k (whole 0 false 0 0) (rw rows h)

module _ (k : ℕ) where
  fit : fits (row_at k) ≡ true
  unfolding row_at fits
  fit = go (ltb k 14) refl
    where
      go : (b : Bool) → ltb k 14 ≡ b → fits (row_at k) ≡ true
      go true q = run_all fits table k (whole 0 false 0 0) (all_fit ∙ sym rows) (rw rows (ltb-true k 14 q))
      go false q = rw (row_past k (ltb-false k 14 q))

  pub rate_exact : rate (row_at k) ≡ true → most (row_at k) ≤ 2 ^ 53
  unfolding fits
  rate_exact e = leb-true _ _ (simp e at fit)

  pub whole_fits : rate (row_at k) ≡ false → most (row_at k) < 2 ^ 32
  unfolding fits
  whole_fits e = ltb-true _ _ (simp e at fit)

-- no identifier of the table is longer than five bytes
short : Row → Bool
short r = ltb (name r) (256 ^ 5)

all_short : run short table ≡ 14
unfolding run short table
all_short = refl

none_of : (id : ℕ) → 256 ^ 5 ≤ id → (l : List Row) → run short l ≡ length l → run (other_row id) l ≡ length l
unfolding run short other_row
none_of id h [] e = refl
none_of id h (r ∷ l) e = go (ltb (name r) (256 ^ 5)) refl e (none_of id h l)
  where
    go : (b : Bool) → ltb (name r) (256 ^ 5) ≡ b → pick b (suc (run short l)) 0 ≡ suc (length l) → (run short l ≡ length l → run (other_row id) l ≡ length l)
        → pick (pick (eqb (name r) id) false true) (suc (run (other_row id) l)) 0 ≡ suc (length l)
    go true q f i =
        let w = ltb-true (name r) (256 ^ 5) q in
        simp (ne_eqb (name r) id (λ z. omega arith)) (ap suc (i (omega arith)))
    go false q f i = absurd (omega arith)

-- the first row of an identifier, by the library's search
pub first_of : (id : ℕ) → cond (ltb (position_or_len (λ (r : Row). eqb (name r) id) table) (length table)) (Some (position_or_len (λ (r : Row). eqb (name r) id) table)) None ≡ row_for id
unfolding row_for run other_row
first_of id = rw (before table) (go (ltb (run (other_row id) table) (length table)))
  where
    before : (l : List Row) → position_or_len (λ (r : Row). eqb (name r) id) l ≡ run (other_row id) l
    before [] = refl
    before (r ∷ l) = step (eqb (name r) id) (before l)
      where
        step : (b : Bool) → position_or_len (λ (r : Row). eqb (name r) id) l ≡ run (other_row id) l
            → cond (not b) (1 + position_or_len (λ (r : Row). eqb (name r) id) l) 0 ≡ pick (pick b false true) (suc (run (other_row id) l)) 0
        step true e = refl
        step false e = omega arith

    go : (b : Bool) → cond b (Some (run (other_row id) table)) None ≡ pick b (Some (run (other_row id) table)) None
    go true = refl
    go false = refl

-- a number of more bytes than five, the first of them no 0
be-least : (s : List ℕ) (n : ℕ) → 0 < get_or s 0 0 → 256 ^ n ≤ be s 0 (suc n)
unfolding be
be-least s zero h = omega arith
be-least s (suc n) h = rw pow-succ' (omega (arith, be-least s n h))

pub long : (v : List ℕ) → 0 < get_or v 0 0 → 5 < length v → None ≡ row_of v
unfolding row_of row_for
long v h l = let e = none_of (be v 0 (length v)) (go (length v) l) table (all_short ∙ sym rows) in simp (le-ltb (run (other_row (be v 0 (length v))) table) (length table) (omega arith))
  where
    go : (n : ℕ) → 5 < n → 256 ^ 5 ≤ be v 0 n
    go zero l = absurd (omega arith)
    go (suc n) l = let p = pow-le-pow_right {n = 256} (omega arith) {i = 5} {j = n} (omega arith) in let b = be-least v n h in omega arith
