-- Any two outcomes that a contract of this crate allows are equal.
use mathlib.Core.Path.{sym, ◌∙◌}
use Rattle.plate.proofs.Outcome.{OneAnswer}
use Rattle.map_aspect.proofs.of_track.Kinds as of-track-kinds
use Rattle.map_aspect.proofs.of_track.Reads as of-track-reads

pub of_track_once : OneAnswer 2 of-track-kinds.ps of-track-kinds.r of-track-reads.Post
of_track_once κs a x y s t p q = p ∙ sym q
