use native.Mathlib.Omega.{arith}
use Rattle.umf.specs.Umf.{offset_at}
use Rattle.umf.proofs.Described.offset_at.Goals as goal

pub returns-in-Tracks : goal.returns-in-Tracks
unfolding offset_at
returns-in-Tracks c = (simp c.in-Tracks.is, omega arith)

pub returns-in-Segments : goal.returns-in-Segments
unfolding offset_at
returns-in-Segments c = (simp c.in-Segments.is, omega arith)

pub returns-in-Users : goal.returns-in-Users
unfolding offset_at
returns-in-Users c = (simp c.in-Users.is, omega arith)
