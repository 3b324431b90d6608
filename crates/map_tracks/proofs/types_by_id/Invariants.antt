use Prim.Native.Nat.{◌≤◌, ◌-◌}
use lib.ListN.{length, replicate}
use Rattle.map_tracks.specs.Tracks.{tracks_of, types_of}
use Rattle.map_tracks.proofs.Listed.{Left}
use Rattle.map_tracks.proofs.types_by_id.Given as goal

abbrev pub invariant-loop-at : goal.invariant-loop-at
invariant-loop-at l = (l.at ≤ length l.s) × Left l.s l.at (types_of (replicate 64 0) (tracks_of l.s).list) (λ ds. types_of l.table.media_types ds)

abbrev pub decreases-loop-at : goal.decreases-loop-at
decreases-loop-at l = length l.s - l.at
