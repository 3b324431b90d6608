use Rattle.umf.specs.Umf.{offset_at, count_of}
use Rattle.umf.proofs.Payload.count.Goals as goal

pub returns-in-Tracks : goal.returns-in-Tracks
unfolding count_of
returns-in-Tracks c = simp c.in-Tracks.is c.le4.ensures

pub returns-in-Segments : goal.returns-in-Segments
unfolding count_of
returns-in-Segments c = simp c.in-Segments.is c.le4-in-Segments.ensures

pub returns-in-Users : goal.returns-in-Users
unfolding count_of offset_at
returns-in-Users c = simp c.in-Users.is c.le4-in-Users.ensures
