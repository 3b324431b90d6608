-- Any two outcomes that a contract of this crate allows are equal.
use mathlib.Core.Path.{sym, ◌∙◌}
use Rattle.plate.proofs.Outcome.{OneAnswer}
use Rattle.locator.proofs.table.Kinds as table-kinds
use Rattle.locator.proofs.table.Reads as table-reads
use Rattle.locator.proofs.read.Kinds as read-kinds
use Rattle.locator.proofs.read.Reads as read-reads
use Rattle.locator.proofs.position_in.Kinds as position-in-kinds
use Rattle.locator.proofs.position_in.Reads as position-in-reads
use Rattle.locator.proofs.position.Kinds as position-kinds
use Rattle.locator.proofs.position.Reads as position-reads

pub table_once : OneAnswer 1 table-kinds.ps table-kinds.r table-reads.Post
table_once κs a x y s t p q = p ∙ sym q

pub read_once : OneAnswer 1 read-kinds.ps read-kinds.r read-reads.Post
read_once κs a x y s t p q = p ∙ sym q

pub position_in_once : OneAnswer 1 position-in-kinds.ps position-in-kinds.r position-in-reads.Post
position_in_once κs a x y s t p q = p ∙ sym q

pub position_once : OneAnswer 1 position-kinds.ps position-kinds.r position-reads.Post
position_once κs a x y s t p q = p ∙ sym q
