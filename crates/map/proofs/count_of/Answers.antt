use mathlib.Core.Path.{◌∙◌}
use Rattle.map_tracks.proofs.Listed.{count_anywhere}
use Rattle.map.specs.Map.{listed_in}
use Rattle.map.proofs.count_of.Goals as goal

pub returns : goal.returns
unfolding listed_in
returns c = c.count.ensures ∙ rw c.track_part.ensures (count_anywhere _ _ _)
