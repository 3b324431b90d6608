-- Any two outcomes that a contract of this crate allows are equal.
use mathlib.Core.Path.{sym, ◌∙◌}
use Rattle.plate.proofs.Outcome.{OneAnswer}
use Rattle.console.proofs.say.Kinds as say-kinds
use Rattle.console.proofs.say.Reads as say-reads
use Rattle.console.proofs.number.Kinds as number-kinds
use Rattle.console.proofs.number.Reads as number-reads
use Rattle.console.proofs.figure.Kinds as figure-kinds
use Rattle.console.proofs.figure.Reads as figure-reads
use Rattle.console.proofs.refused.Kinds as refused-kinds
use Rattle.console.proofs.refused.Reads as refused-reads
use Rattle.console.proofs.bits_of.Kinds as bits-of-kinds
use Rattle.console.proofs.bits_of.Reads as bits-of-reads

pub say_once : OneAnswer 1 say-kinds.ps say-kinds.r say-reads.Post
say_once κs a x y s t p q = p ∙ sym q

pub number_once : OneAnswer 0 number-kinds.ps number-kinds.r number-reads.Post
number_once κs a x y s t p q = p ∙ sym q

pub figure_once : OneAnswer 0 figure-kinds.ps figure-kinds.r figure-reads.Post
figure_once κs a x y s t p q = p ∙ sym q

pub refused_once : OneAnswer 0 refused-kinds.ps refused-kinds.r refused-reads.Post
refused_once κs a x y s t p q = p ∙ sym q

pub bits_of_once : OneAnswer 0 bits-of-kinds.ps bits-of-kinds.r bits-of-reads.Post
bits_of_once κs a x y s t p q = p ∙ sym q
