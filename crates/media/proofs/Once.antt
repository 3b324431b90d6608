-- Any two outcomes that a contract of this crate allows are equal.
use mathlib.Core.Path.{sym, ◌∙◌}
use Rattle.plate.proofs.Outcome.{OneAnswer}
use Rattle.media.proofs.preamble.Kinds as preamble-kinds
use Rattle.media.proofs.preamble.Reads as preamble-reads
use Rattle.media.proofs.read.Kinds as read-kinds
use Rattle.media.proofs.read.Reads as read-reads

pub preamble_once : OneAnswer 1 preamble-kinds.ps preamble-kinds.r preamble-reads.Post
preamble_once κs a x y s t p q = p ∙ sym q

pub read_once : OneAnswer 1 read-kinds.ps read-kinds.r read-reads.Post
read_once κs a x y s t p q = p ∙ sym q
