-- Any two outcomes that a contract of this crate allows are equal.
use mathlib.Core.Path.{sym, ◌∙◌}
use Rattle.plate.proofs.Outcome.{OneAnswer}
use Rattle.umf.proofs.verdict_of.Kinds as verdict-of-kinds
use Rattle.umf.proofs.verdict_of.Reads as verdict-of-reads
use Rattle.umf.proofs.number_of.Kinds as number-of-kinds
use Rattle.umf.proofs.number_of.Reads as number-of-reads
use Rattle.umf.proofs.place.Kinds as place-kinds
use Rattle.umf.proofs.place.Reads as place-reads

pub verdict_of_once : OneAnswer 1 verdict-of-kinds.ps verdict-of-kinds.r verdict-of-reads.Post
verdict_of_once κs a x y s t p q = p ∙ sym q

pub number_of_once : OneAnswer 1 number-of-kinds.ps number-of-kinds.r number-of-reads.Post
number_of_once κs a x y s t p q = p ∙ sym q

pub place_once : OneAnswer 1 place-kinds.ps place-kinds.r place-reads.Post
place_once κs a x y s t p q = p ∙ sym q
