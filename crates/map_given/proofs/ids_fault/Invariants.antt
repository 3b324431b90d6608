use mathlib.Core.Path.{◌≡◌}
use mathlib.Core.List.{[]}
use Rattle.std.specs.Slice.Iter.{chunks_exact_rest, chunks_exact_size}
use Rattle.map_given.specs.Given.{tracks_given}
use Rattle.map_given.specs.Faults.{ids_fault}
use Rattle.map_given.proofs.Ids.{IdsLeft}
use Rattle.map_given.proofs.ids_fault.Given as goal

abbrev pub invariant-loop-track : goal.invariant-loop-track
invariant-loop-track l = (chunks_exact_size l.track-iterator ≡ 23) × IdsLeft (ids_fault [] (tracks_given l.tracks)) l.worst l.used (chunks_exact_rest l.track-iterator)
