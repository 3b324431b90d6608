-- Any two outcomes that a contract of this crate allows are equal.
use mathlib.Core.Path.{sym, ◌∙◌}
use Rattle.plate.proofs.Outcome.{OneAnswer}
use Rattle.mpeg_scan.proofs.is_alnum.Kinds as is-alnum-kinds
use Rattle.mpeg_scan.proofs.is_alnum.Reads as is-alnum-reads
use Rattle.mpeg_scan.proofs.alnum_end.Kinds as alnum-end-kinds
use Rattle.mpeg_scan.proofs.alnum_end.Reads as alnum-end-reads
use Rattle.mpeg_scan.proofs.until.Kinds as until-kinds
use Rattle.mpeg_scan.proofs.until.Reads as until-reads

pub is_alnum_once : OneAnswer 0 is-alnum-kinds.ps is-alnum-kinds.r is-alnum-reads.Post
is_alnum_once κs a x y s t p q = p ∙ sym q

pub alnum_end_once : OneAnswer 1 alnum-end-kinds.ps alnum-end-kinds.r alnum-end-reads.Post
alnum_end_once κs a x y s t p q = p ∙ sym q

pub until_once : OneAnswer 1 until-kinds.ps until-kinds.r until-reads.Post
until_once κs a x y s t p q = p ∙ sym q
