use mathlib.Core.Path.{◌∙◌}
use Rattle.map_tracks.proofs.is_listed.Goals as goal

pub returns : goal.returns
returns c = c.is_known.ensures ∙ rw c.bare.ensures
