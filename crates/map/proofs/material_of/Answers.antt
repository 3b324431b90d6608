use mathlib.Core.Path.{◌∙◌}
use Rattle.map.specs.Map.{material_says}
use Rattle.map.proofs.material_of.Goals as goal

pub returns : goal.returns
unfolding material_says
returns c = c.material_says.ensures ∙ rw c.material_part.ensures
