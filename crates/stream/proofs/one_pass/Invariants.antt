use Prim.Native.Nat.{◌≤◌, ◌-◌}
use lib.ListN.{length}
use Rattle.stream.proofs.Laws.{Left}
use Rattle.stream.proofs.one_pass.Given as goal

abbrev pub invariant-loop-at : goal.invariant-loop-at
invariant-loop-at l = (l.at ≤ length l.s) × (l.p.count ≤ l.at) × (l.p.since_map ≤ l.at) × Left l.s l.track l.field l.at l.p l.types.media_types l.first

abbrev pub decreases-loop-at : goal.decreases-loop-at
decreases-loop-at l = length l.s - l.at
