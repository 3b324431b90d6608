use mathlib.Core.Path.{sym, ◌∙◌}
use Rattle.control.specs.Control.{header_for_c}
use Rattle.control.proofs.gxf_header.Goals as goal

pub returns-in-Ok : goal.returns-in-Ok
unfolding header_for_c
returns-in-Ok c = simp (sym c.header.ensures ∙ c.in-Ok.is)

pub returns-in-Err : goal.returns-in-Err
unfolding header_for_c
returns-in-Err c = simp (sym c.header.ensures ∙ c.in-Err.is, c.number.ensures)
