use Prim.Native.Nat.{◌-◌}
use lib.ListN.{length}
use Rattle.mpeg.specs.Inside.{Skipped}
use Rattle.mpeg.proofs.skip.Given as goal

abbrev pub invariant-loop-at : goal.invariant-loop-at
invariant-loop-at l = Skipped l.s l.from l.at

abbrev pub decreases-loop-at : goal.decreases-loop-at
decreases-loop-at l = length l.s - l.at
