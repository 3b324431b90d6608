use mathlib.Core.Path.{◌∙◌}
use Rattle.map.specs.Map.{types_in}
use Rattle.map.proofs.types_of.Goals as goal

pub returns : goal.returns
unfolding types_in
returns c = c.types_by_id.ensures ∙ rw c.track_part.ensures
