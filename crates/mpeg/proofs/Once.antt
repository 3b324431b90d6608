-- Any two outcomes that a contract of this crate allows are equal.
use mathlib.Core.Path.{sym, ◌∙◌}
use Rattle.plate.proofs.Outcome.{OneAnswer}
use Rattle.mpeg.proofs.read.Kinds as read-kinds
use Rattle.mpeg.proofs.read.Reads as read-reads
use Rattle.mpeg.proofs.ratio.Kinds as ratio-kinds
use Rattle.mpeg.proofs.ratio.Reads as ratio-reads

pub read_once : OneAnswer 1 read-kinds.ps read-kinds.r read-reads.Post
read_once κs a x y s t p q = p ∙ sym q

pub ratio_once : OneAnswer 1 ratio-kinds.ps ratio-kinds.r ratio-reads.Post
ratio_once κs a x y s t p q = p ∙ sym q
