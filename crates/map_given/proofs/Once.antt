-- Any two outcomes that a contract of this crate allows are equal.
use mathlib.Core.Path.{sym, ◌∙◌}
use Rattle.plate.proofs.Outcome.{OneAnswer}
use Rattle.map_given.proofs.slot_at.Kinds as slot-at-kinds
use Rattle.map_given.proofs.slot_at.Reads as slot-at-reads
use Rattle.map_given.proofs.is_text.Kinds as is-text-kinds
use Rattle.map_given.proofs.is_text.Reads as is-text-reads
use Rattle.map_given.proofs.fault.Kinds as fault-kinds
use Rattle.map_given.proofs.fault.Reads as fault-reads
use Rattle.map_given.proofs.any_wrong.Kinds as any-wrong-kinds
use Rattle.map_given.proofs.any_wrong.Reads as any-wrong-reads

pub slot_at_once : OneAnswer 1 slot-at-kinds.ps slot-at-kinds.r slot-at-reads.Post
slot_at_once κs a x y s t p q = p ∙ sym q

pub is_text_once : OneAnswer 0 is-text-kinds.ps is-text-kinds.r is-text-reads.Post
is_text_once κs a x y s t p q = p ∙ sym q

pub fault_once : OneAnswer 3 fault-kinds.ps fault-kinds.r fault-reads.Post
fault_once κs a x y s t p q = p ∙ sym q

pub any_wrong_once : OneAnswer 1 any-wrong-kinds.ps any-wrong-kinds.r any-wrong-reads.Post
any_wrong_once κs a x y s t p q = p ∙ sym q
