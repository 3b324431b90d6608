use native.Mathlib.Omega.{arith}
use mathlib.Core.Path.{sym}
use Rattle.mpeg_decimal.proofs.Laws.{numeral_most, numeral_lt, fraction_empty, scaled}
use Rattle.mpeg_decimal.specs.Decimal.{fraction_of}
use Rattle.mpeg_decimal.proofs.fraction.Goals as goal

pub returns-in_default : goal.returns-in_default
unfolding fraction_of
returns-in_default c = fraction_empty _ c.in_default.ensures.cases

pub returns-in_err-numeral : goal.returns-in_err-numeral
unfolding fraction_of
returns-in_err-numeral c = rw c.from_residual.ensures (rw c.in-Some.ensures.cases.0 (simp (sym c.in_err-numeral.ensures)))

pub worth-requires : goal.worth-requires
worth-requires c = numeral_most 6 _ _ (sym c.in_ok-numeral.ensures)

pub overflow_mul-result : goal.overflow_mul-result
overflow_mul-result c = let m = numeral_lt 6 _ _ (sym c.in_ok-numeral.ensures) in
    let s = scaled _ m c.worth.ensures in omega arith

pub returns : goal.returns
unfolding fraction_of
returns c = rw c.in-Some.ensures.cases.0 (simp (sym c.in_ok-numeral.ensures, sym c.worth.ensures))
