use mathlib.Core.Path.{◌≡◌}
use lib.ListN.{length}
use lib.Seq.{sets}
use Rattle.std.specs.Slice.Iter.{chunks_exact_rest, chunks_exact_size}
use Rattle.map_given.specs.Given.{tracks_given}
use Rattle.map_writer.specs.Inside.{tracks_bytes}
use Rattle.map_writer.proofs.PutTracks.{TracksLeft}
use Rattle.map_writer.proofs.put_tracks.Given as goal

abbrev pub invariant-loop-track : goal.invariant-loop-track
invariant-loop-track l = (chunks_exact_size l.track-iterator ≡ 23) × TracksLeft (sets l.initial.out l.pos (tracks_bytes l.text (tracks_given l.tracks))) l.text (length l.initial.out) l.out l.to (chunks_exact_rest l.track-iterator)
