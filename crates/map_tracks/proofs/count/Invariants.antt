use Prim.Native.Nat.{◌≤◌, ◌-◌, ◌+◌}
use lib.ListN.{length}
use Rattle.map_tracks.specs.Tracks.{tracks_of, listed}
use Rattle.map_tracks.proofs.Listed.{Left}
use Rattle.map_tracks.proofs.count.Given as goal

abbrev pub invariant-loop-at : goal.invariant-loop-at
invariant-loop-at l = (l.at ≤ length l.s) × (l.found ≤ l.at) × Left l.s l.at (length (listed 0 (tracks_of l.s).list)) (λ ds. l.found + length (listed 0 ds))

abbrev pub decreases-loop-at : goal.decreases-loop-at
decreases-loop-at l = length l.s - l.at
