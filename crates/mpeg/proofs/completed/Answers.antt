use mathlib.Core.Path.{sym, ◌∙◌}
use Rattle.mpeg.specs.Inside.{completed}
use Rattle.mpeg.proofs.completed.Goals as goal

pub returns-then-is_lacking : goal.returns-then-is_lacking
unfolding completed
returns-then-is_lacking c = simp (sym c.is_lacking.ensures ∙ c.if-is_lacking.true, c.refuse.ensures)

pub returns : goal.returns
unfolding completed
returns c = simp (sym c.is_lacking.ensures ∙ c.if-is_lacking.false)
