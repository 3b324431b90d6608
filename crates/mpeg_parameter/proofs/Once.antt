-- Any two outcomes that a contract of this crate allows are equal.
use mathlib.Core.Path.{sym, ◌∙◌}
use Rattle.plate.proofs.Outcome.{OneAnswer}
use Rattle.mpeg_parameter.proofs.row_for.Kinds as row-for-kinds
use Rattle.mpeg_parameter.proofs.row_for.Reads as row-for-reads
use Rattle.mpeg_parameter.proofs.amount.Kinds as amount-kinds
use Rattle.mpeg_parameter.proofs.amount.Reads as amount-reads
use Rattle.mpeg_parameter.proofs.value_of.Kinds as value-of-kinds
use Rattle.mpeg_parameter.proofs.value_of.Reads as value-of-reads
use Rattle.mpeg_parameter.proofs.is_lacking.Kinds as is-lacking-kinds
use Rattle.mpeg_parameter.proofs.is_lacking.Reads as is-lacking-reads
use Rattle.mpeg_parameter.proofs.parameters_of.Kinds as parameters-of-kinds
use Rattle.mpeg_parameter.proofs.parameters_of.Reads as parameters-of-reads

pub row_for_once : OneAnswer 0 row-for-kinds.ps row-for-kinds.r row-for-reads.Post
row_for_once κs a x y s t p q = p ∙ sym q

pub amount_once : OneAnswer 1 amount-kinds.ps amount-kinds.r amount-reads.Post
amount_once κs a x y s t p q = p ∙ sym q

pub value_of_once : OneAnswer 0 value-of-kinds.ps value-of-kinds.r value-of-reads.Post
value_of_once κs a x y s t p q = p ∙ sym q

pub is_lacking_once : OneAnswer 1 is-lacking-kinds.ps is-lacking-kinds.r is-lacking-reads.Post
is_lacking_once κs a x y s t p q = p ∙ sym q

pub parameters_of_once : OneAnswer 1 parameters-of-kinds.ps parameters-of-kinds.r parameters-of-reads.Post
parameters_of_once κs a x y s t p q = p ∙ sym q
