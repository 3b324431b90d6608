-- Any two outcomes that a contract of this crate allows are equal.
use mathlib.Core.Path.{sym, ◌∙◌}
use Rattle.plate.proofs.Outcome.{OneAnswer}
use Rattle.segment.proofs.segment_at.Kinds as segment-at-kinds
use Rattle.segment.proofs.segment_at.Reads as segment-at-reads

pub segment_at_once : OneAnswer 1 segment-at-kinds.ps segment-at-kinds.r segment-at-reads.Post
segment_at_once κs a x y s t p q = p ∙ sym q
