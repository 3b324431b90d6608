use mathlib.Core.Path.{sym, ◌∙◌}
use Rattle.segment.proofs.Floats.{level_is, level_none}
use Rattle.segment.proofs.level_of.Goals as goal

pub returns-in_err-number_of : goal.returns-in_err-number_of
returns-in_err-number_of c = rw c.from_residual.ensures (level_none _ (sym c.in_err-number_of.ensures))

pub returns : goal.returns
returns c = c.in_range.ensures ∙ level_is _ _ (sym c.in_ok-number_of.ensures)
