-- Any two outcomes that a public contract of this crate allows are equal.
use mathlib.Core.Path.{sym, ◌∙◌}
use Rattle.plate.proofs.Outcome.{OneAnswer}
use Rattle.mpeg_decimal.proofs.whole.Kinds as whole_Kinds
use Rattle.mpeg_decimal.proofs.whole.Reads as whole-reads
use Rattle.mpeg_decimal.proofs.rate.Kinds as rate-kinds
use Rattle.mpeg_decimal.proofs.rate.Reads as rate-reads

pub whole_once : OneAnswer 1 whole_Kinds.ps whole_Kinds.r whole-reads.Post
whole_once κs a x y s t p q = p ∙ sym q

pub rate_once : OneAnswer 1 rate-kinds.ps rate-kinds.r rate-reads.Post
rate_once κs a x y s t p q = p ∙ sym q
