use native.Mathlib.Omega.{arith}
use Rattle.umf.specs.Split.{least_of, stated_of}
use Rattle.umf.proofs.Described.stated.Goals as goal

pub le_at-requires : goal.le_at-requires
unfolding least_of
le_at-requires c = let h = rw c.in-Segments.is at c.requires in (omega arith, omega arith)

pub le4-requires : goal.le4-requires
unfolding least_of
le4-requires c = let h = rw c.in-Users.is at c.requires in omega arith

pub returns-in-Tracks : goal.returns-in-Tracks
unfolding stated_of
returns-in-Tracks c = simp c.in-Tracks.is

pub returns-in-Segments : goal.returns-in-Segments
unfolding stated_of
returns-in-Segments c = simp c.in-Segments.is c.le_at.ensures

pub returns-in-Users : goal.returns-in-Users
unfolding stated_of
returns-in-Users c = simp c.in-Users.is c.le4.ensures
