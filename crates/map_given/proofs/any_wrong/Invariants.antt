use mathlib.Core.Path.{◌≡◌}
use Rattle.std.specs.Slice.Iter.{chunks_exact_rest, chunks_exact_size}
use Rattle.map_given.specs.Given.{tracks_given}
use Rattle.map_given.specs.Faults.{any_wrong}
use Rattle.map_given.proofs.any_wrong.Given as goal

abbrev pub invariant-loop-track : goal.invariant-loop-track
invariant-loop-track l = (chunks_exact_size l.track-iterator ≡ 23) × (any_wrong (tracks_given l.tracks) ≡ any_wrong (tracks_given (chunks_exact_rest l.track-iterator)))
