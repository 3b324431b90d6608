-- Any two outcomes that a contract of this crate allows are equal.
use mathlib.Core.Path.{sym, ◌∙◌}
use Rattle.plate.proofs.Outcome.{OneAnswer}
use Rattle.stream.proofs.check.Kinds as check-kinds
use Rattle.stream.proofs.check.Reads as check-reads
use Rattle.stream.proofs.seek.Kinds as seek-kinds
use Rattle.stream.proofs.seek.Reads as seek-reads

pub check_once : OneAnswer 1 check-kinds.ps check-kinds.r check-reads.Post
check_once κs a x y s t p q = p ∙ sym q

pub seek_once : OneAnswer 1 seek-kinds.ps seek-kinds.r seek-reads.Post
seek_once κs a x y s t p q = p ∙ sym q
