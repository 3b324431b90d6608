-- Any two outcomes that a contract of this crate allows are equal.
use mathlib.Core.Path.{sym, ◌∙◌}
use Rattle.plate.proofs.Outcome.{OneAnswer}
use Rattle.map_items.proofs.refused.Kinds as refused-kinds
use Rattle.map_items.proofs.refused.Reads as refused-reads
use Rattle.map_items.proofs.asked_of.Kinds as asked-of-kinds
use Rattle.map_items.proofs.asked_of.Reads as asked-of-reads
use Rattle.map_items.proofs.is_known.Kinds as is-known-kinds
use Rattle.map_items.proofs.is_known.Reads as is-known-reads
use Rattle.map_items.proofs.fault.Kinds as fault-kinds
use Rattle.map_items.proofs.fault.Reads as fault-reads
use Rattle.map_items.proofs.counts_as.Kinds as counts-as-kinds
use Rattle.map_items.proofs.counts_as.Reads as counts-as-reads
use Rattle.map_items.proofs.judge.Kinds as judge-kinds
use Rattle.map_items.proofs.judge.Reads as judge-reads
use Rattle.map_items.proofs.found.Kinds as found-kinds
use Rattle.map_items.proofs.found.Reads as found-reads
use Rattle.map_items.proofs.found_in_whole.Kinds as found-in-whole-kinds
use Rattle.map_items.proofs.found_in_whole.Reads as found-in-whole-reads

pub refused_once : OneAnswer 0 refused-kinds.ps refused-kinds.r refused-reads.Post
refused_once κs a x y s t p q = p ∙ sym q

pub asked_of_once : OneAnswer 0 asked-of-kinds.ps asked-of-kinds.r asked-of-reads.Post
asked_of_once κs a x y s t p q = p ∙ sym q

pub is_known_once : OneAnswer 0 is-known-kinds.ps is-known-kinds.r is-known-reads.Post
is_known_once κs a x y s t p q = p ∙ sym q

pub fault_once : OneAnswer 1 fault-kinds.ps fault-kinds.r fault-reads.Post
fault_once κs a x y s t p q = p ∙ sym q

pub counts_as_once : OneAnswer 0 counts-as-kinds.ps counts-as-kinds.r counts-as-reads.Post
counts_as_once κs a x y s t p q = p ∙ sym q

pub judge_once : OneAnswer 1 judge-kinds.ps judge-kinds.r judge-reads.Post
judge_once κs a x y s t p q = p ∙ sym q

pub found_once : OneAnswer 1 found-kinds.ps found-kinds.r found-reads.Post
found_once κs a x y s t p q = p ∙ sym q

pub found_in_whole_once : OneAnswer 1 found-in-whole-kinds.ps found-in-whole-kinds.r found-in-whole-reads.Post
found_in_whole_once κs a x y s t p q = p ∙ sym q
