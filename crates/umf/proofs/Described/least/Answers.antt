use Rattle.umf.specs.Split.{least_of}
use Rattle.umf.proofs.Described.least.Goals as goal

pub returns-in-Tracks : goal.returns-in-Tracks
unfolding least_of
returns-in-Tracks c = simp c.in-Tracks.is

pub returns-in-Segments : goal.returns-in-Segments
unfolding least_of
returns-in-Segments c = simp c.in-Segments.is

pub returns-in-Users : goal.returns-in-Users
unfolding least_of
returns-in-Users c = simp c.in-Users.is
