use native.Mathlib.Omega.{arith}
use Prim.Native.Nat.{◌≤◌, ◌^◌}
use mathlib.Core.Path.{◌≡◌, refl, sym}
use borrow.Author.Tests.{le-leb}
use lib.Ieee as Ieee
use lib.Ieee.{binary64}
use lib.IntN.{pos}
use Rattle.mpeg_parameter.specs.Parameters.{value_of_row, number_of, millionths}
use Rattle.mpeg_parameter.specs.Table.{row_at}
use Rattle.mpeg_parameter.proofs.Laws.{number_most}
use Rattle.mpeg_parameter.proofs.Rows.{rate_exact, whole_fits}
use Rattle.mpeg_parameter.proofs.value_of.Goals as goal

-- the divisor's bits
million : Ieee.of_int binary64 (pos 1000000) ≡ Ieee.of_bits binary64 0x412E848000000000
unfolding Ieee.of_int Ieee.of_bits Ieee.round Ieee.size Ieee.units Ieee.odd
million = refl

pub int_to_float-result : goal.int_to_float-result
unfolding Ieee.in_float
int_to_float-result c = let a = c.args in
    let n : c.number_of-n.result ≡ number_of (row_at a.k) a.slot = rw c.row_at-row.ensures at c.number_of-n.ensures in
    let m = number_most (row_at a.k) a.slot in
    let e = rate_exact a.k (rw c.row_at-row.ensures at c.if-row.true) in
    let h : c.number_of-n.result ≤ 2 ^ 53 = omega arith in
    rw (le-leb _ _ h) tt

pub returns-then-row : goal.returns-then-row
unfolding value_of_row millionths
returns-then-row c = simp (← c.row_at-row.ensures, c.if-row.true, sym c.number_of-n.ensures, million)

pub overflow_cast-result : goal.overflow_cast-result
overflow_cast-result c = let a = c.args in
    let n : c.number_of-n.result ≡ number_of (row_at a.k) a.slot = rw c.row_at-row.ensures at c.number_of-n.ensures in
    let m = number_most (row_at a.k) a.slot in
    let e = whole_fits a.k (rw c.row_at-row.ensures at c.if-row.false) in
    omega arith

pub returns : goal.returns
unfolding value_of_row
returns c = simp (← c.row_at-row.ensures, c.if-row.false, sym c.number_of-n.ensures)
