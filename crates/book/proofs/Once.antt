-- Any two outcomes that a contract of this crate allows are equal.
use mathlib.Core.Path.{sym, ◌∙◌}
use Rattle.plate.proofs.Outcome.{OneAnswer}
use Rattle.book.proofs.lookup.Kinds as lookup-kinds
use Rattle.book.proofs.lookup.Reads as lookup-reads

pub lookup_once : OneAnswer 1 lookup-kinds.ps lookup-kinds.r lookup-reads.Post
lookup_once κs a x y s t p q = p ∙ sym q
