use mathlib.Core.Path.{sym, ◌∙◌}
use borrow.Author.Tests.{lt-ltb, le-ltb}
use Rattle.std.proofs.lemmas.Result.{err_from_is_err_and}
use Rattle.map_records.specs.Fill.{answer_for}
use Rattle.map_records.proofs.answer_for.Goals as goal

pub returns-then-room-m : goal.returns-then-room-m
unfolding answer_for
returns-then-room-m c = simp (sym c.read.ensures ∙ c.in_ok-m.was, lt-ltb _ _ c.if-room-m.true, c.refuse.ensures)

pub returns-in_err-m : goal.returns-in_err-m
unfolding answer_for
returns-in_err-m c = let p = err_from_is_err_and c.from_residual.result c.from_residual.ensures.1 in rw (p.1, p.2) (simp (sym c.read.ensures ∙ c.in_err-m.was))

pub returns : goal.returns
unfolding answer_for
returns c = simp (sym c.read.ensures ∙ c.in_ok-m.was, le-ltb _ _ c.if-room-m.false)
