use mathlib.Core.Path.{◌∙◌, ap}
use Rattle.map_answer.specs.Answer.{is_null}
use Rattle.map_tracks.proofs.has_null_name.Goals as goal

pub returns : goal.returns
returns c = c.is_null.ensures ∙ ap is_null c.found.ensures
