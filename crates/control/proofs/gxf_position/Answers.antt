use mathlib.Core.Path.{sym, ◌∙◌}
use Rattle.control.specs.Control.{position_for_c}
use Rattle.control.proofs.gxf_position.Goals as goal

pub returns-in-Ok : goal.returns-in-Ok
unfolding position_for_c
returns-in-Ok c = simp (c.answered.ensures, sym c.position.ensures ∙ c.in-Ok.is)

pub returns-in-Err : goal.returns-in-Err
unfolding position_for_c
returns-in-Err c = simp (c.refused.ensures, sym c.position.ensures ∙ c.in-Err.is)
