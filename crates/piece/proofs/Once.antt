-- Any two outcomes that a contract of this crate allows are equal.
use mathlib.Core.Path.{sym, ◌∙◌}
use Rattle.plate.proofs.Outcome.{OneAnswer}
use Rattle.piece.proofs.piece_at.Kinds as piece-at-kinds
use Rattle.piece.proofs.piece_at.Reads as piece-at-reads
use Rattle.piece.proofs.seen_at.Kinds as seen-at-kinds
use Rattle.piece.proofs.seen_at.Reads as seen-at-reads

pub piece_at_once : OneAnswer 1 piece-at-kinds.ps piece-at-kinds.r piece-at-reads.Post
piece_at_once κs a x y s t p q = p ∙ sym q

pub seen_at_once : OneAnswer 1 seen-at-kinds.ps seen-at-kinds.r seen-at-reads.Post
seen_at_once κs a x y s t p q = p ∙ sym q
