-- Any two outcomes that a contract of this crate allows are equal.
use mathlib.Core.Path.{sym, ◌∙◌}
use Rattle.plate.proofs.Outcome.{OneAnswer}
use Rattle.order.proofs.start.Kinds as start-kinds
use Rattle.order.proofs.start.Reads as start-reads
use Rattle.order.proofs.take_step.Kinds as take-step-kinds
use Rattle.order.proofs.take_step.Reads as take-step-reads

pub start_once : OneAnswer 0 start-kinds.ps start-kinds.r start-reads.Post
start_once κs a x y s t p q = p ∙ sym q

pub take_step_once : OneAnswer 0 take-step-kinds.ps take-step-kinds.r take-step-reads.Post
take_step_once κs a x y s t p q = p ∙ sym q
