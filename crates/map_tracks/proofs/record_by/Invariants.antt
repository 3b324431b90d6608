use Prim.Native.Nat.{◌≤◌, ◌-◌, ◌+◌}
use lib.ListN.{length}
use Rattle.map_tracks.specs.Tracks.{tracks_of, listed}
use Rattle.map_tracks.specs.Inside.{keyed_of}
use Rattle.map_tracks.proofs.Listed.{Left}
use Rattle.map_tracks.proofs.record_by.Given as goal

abbrev pub invariant-loop-at : goal.invariant-loop-at
invariant-loop-at l = (l.before ≤ l.at) × (l.at ≤ length l.s) × Left l.s l.at (keyed_of l.named 0 l.wanted (listed l.base (tracks_of l.s).list)) (λ ds. keyed_of l.named l.before l.wanted (listed (l.base + l.at) ds))

abbrev pub decreases-loop-at : goal.decreases-loop-at
decreases-loop-at l = length l.s - l.at
