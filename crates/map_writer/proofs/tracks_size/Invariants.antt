use mathlib.Core.Path.{◌≡◌}
use Prim.Native.Nat.{◌+◌}
use Rattle.std.specs.Slice.Iter.{chunks_exact_rest, chunks_exact_size}
use Rattle.map_given.specs.Given.{tracks_given}
use Rattle.map_writer.specs.Inside.{tracks_size}
use Rattle.map_writer.proofs.tracks_size.Given as goal

abbrev pub invariant-loop-track : goal.invariant-loop-track
invariant-loop-track l = (chunks_exact_size l.track-iterator ≡ 23) × (tracks_size (tracks_given l.tracks) ≡ l.total + tracks_size (tracks_given (chunks_exact_rest l.track-iterator)))
