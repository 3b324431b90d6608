use Rattle.map_tracks.specs.Inside.{holds}
use Rattle.map_tracks.proofs.has.Goals as goal

pub returns : goal.returns
unfolding holds
returns c = rw c.wide-k.ensures
