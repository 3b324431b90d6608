use native.Mathlib.Omega.{arith}
use mathlib.Core.Path.{sym, ◌∙◌}
use Rattle.std.proofs.lemmas.Result.{err_from_is_err_and}
use Rattle.book_builder.proofs.Laws.{build_refused, build_small, build_done}
use Rattle.book_builder.proofs.build.Goals as goal

pub count-n-requires : goal.count-n-requires
count-n-requires c = record { count = _; passes = sym c.check.ensures ∙ c.in_ok-check.was }

pub returns-then-out-n : goal.returns-then-out-n
returns-then-out-n c = rw c.refuse.ensures (build_small _ _ _ (sym c.check.ensures ∙ c.in_ok-check.was) (omega (arith, c.count-n.ensures)))

pub write-requires : goal.write-requires
write-requires c = (record { count = _; passes = sym c.check.ensures ∙ c.in_ok-check.was }, omega (arith, c.count-n.ensures))

pub returns-in_err-check : goal.returns-in_err-check
returns-in_err-check c = let p = err_from_is_err_and c.from_residual.result c.from_residual.ensures.1 in rw (p.1, p.2) (build_refused _ _ _ (sym c.check.ensures ∙ c.in_err-check.was))

pub shape_of-out : goal.shape_of-out
shape_of-out c = c.write.auto.out

pub returns : goal.returns
returns c = build_done _ _ _ (sym c.check.ensures ∙ c.in_ok-check.was) (omega (arith, c.count-n.ensures)) _ c.count-n.ensures _ c.write.ensures
