use native.Mathlib.Omega.{arith}
use mathlib.Core.Path.{sym}
use Rattle.mpeg_scan.proofs.Laws.{run_within}
use Rattle.mpeg_decimal.specs.Decimal.{rate_of}
use Rattle.mpeg_decimal.proofs.Laws.{numeral_lt, fraction_lt, some_is}
use Rattle.mpeg_decimal.proofs.rate.Goals as goal

pub split_at-requires : goal.split_at-requires
split_at-requires c = rw c.until.ensures (run_within _ _ 0 (omega arith))

pub returns-in_err-numeral : goal.returns-in_err-numeral
unfolding rate_of
returns-in_err-numeral c = rw c.from_residual.ensures (simp (sym c.until.ensures, sym c.split_at.ensures.front, sym c.in_err-numeral.ensures))

pub overflow_mul-total : goal.overflow_mul-total
overflow_mul-total c = let l = numeral_lt 10 _ _ (sym c.in_ok-numeral.ensures) in omega arith

pub returns-in_err-total : goal.returns-in_err-total
unfolding rate_of
returns-in_err-total c = rw c.from_residual-in_err-total.ensures (simp (sym c.until.ensures, sym c.split_at.ensures.front, sym c.split_at.ensures.back, sym c.in_ok-numeral.ensures, sym c.in_err-total.ensures))

pub overflow_add-total : goal.overflow_add-total
overflow_add-total c = let l = numeral_lt 10 _ _ (sym c.in_ok-numeral.ensures) in
    let m = fraction_lt _ _ (sym c.in_ok-total.ensures) in omega arith

pub returns : goal.returns
unfolding rate_of
returns c = rw c.then_some.ensures (simp (sym c.until.ensures, sym c.split_at.ensures.front, sym c.split_at.ensures.back, sym c.in_ok-numeral.ensures, sym c.in_ok-total.ensures) (some_is _ _))
