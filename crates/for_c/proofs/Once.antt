-- Any two outcomes that a contract of this crate allows are equal.
use mathlib.Core.Path.{sym, ◌∙◌}
use Rattle.plate.proofs.Outcome.{OneAnswer}
use Rattle.for_c.proofs.answered.Kinds as answered-kinds
use Rattle.for_c.proofs.answered.Reads as answered-reads
use Rattle.for_c.proofs.refused.Kinds as refused-kinds
use Rattle.for_c.proofs.refused.Reads as refused-reads
use Rattle.for_c.proofs.value.Kinds as value-kinds
use Rattle.for_c.proofs.value.Reads as value-reads

pub answered_once : OneAnswer 0 answered-kinds.ps answered-kinds.r answered-reads.Post
answered_once κs a x y s t p q = p ∙ sym q

pub refused_once : OneAnswer 0 refused-kinds.ps refused-kinds.r refused-reads.Post
refused_once κs a x y s t p q = p ∙ sym q

pub value_once : OneAnswer 0 value-kinds.ps value-kinds.r value-reads.Post
value_once κs a x y s t p q = p ∙ sym q
