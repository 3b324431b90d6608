use Rattle.map_tracks.specs.Inside.{key_of}
use Rattle.map_tracks.proofs.key.Goals as goal

pub returns-then-named : goal.returns-then-named
unfolding key_of
returns-then-named c = rw c.if-named.true (c.bare.ensures)

pub returns-else-named : goal.returns-else-named
unfolding key_of
returns-else-named c = rw c.if-named.false
