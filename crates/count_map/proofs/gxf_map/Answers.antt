use mathlib.Core.Path.{sym, ◌∙◌}
use Rattle.count_map.specs.MeasureMap.{map_for_c}
use Rattle.count_map.proofs.gxf_map.Goals as goal

pub returns-in-Ok : goal.returns-in-Ok
unfolding map_for_c
returns-in-Ok c = simp (c.accepted.ensures, sym c.read.ensures ∙ c.in-Ok.is)

pub returns-in-Err : goal.returns-in-Err
unfolding map_for_c
returns-in-Err c = simp (c.refused.ensures, sym c.read.ensures ∙ c.in-Err.is)
