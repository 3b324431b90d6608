use mathlib.Core.Path.{◌∙◌}
use Rattle.map_tracks.proofs.Listed.{keyed_id}
use Rattle.map_tracks.proofs.record_of_id.Goals as goal

pub returns : goal.returns
returns c = c.record_by.ensures ∙ keyed_id _ 0 _
