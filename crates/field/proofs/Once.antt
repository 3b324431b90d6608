-- Any two outcomes that a contract of this crate allows are equal.
use mathlib.Core.Path.{sym, ◌∙◌}
use Rattle.plate.proofs.Outcome.{OneAnswer}
use Rattle.field.proofs.type_with.Kinds as type-with-kinds
use Rattle.field.proofs.type_with.Reads as type-with-reads
use Rattle.field.proofs.has_mark.Kinds as has-mark-kinds
use Rattle.field.proofs.has_mark.Reads as has-mark-reads
use Rattle.field.proofs.type_alone.Kinds as type-alone-kinds
use Rattle.field.proofs.type_alone.Reads as type-alone-reads
use Rattle.field.proofs.is_even.Kinds as is-even-kinds
use Rattle.field.proofs.is_even.Reads as is-even-reads
use Rattle.field.proofs.carries_two.Kinds as carries-two-kinds
use Rattle.field.proofs.carries_two.Reads as carries-two-reads
use Rattle.field.proofs.by_half.Kinds as by-half-kinds
use Rattle.field.proofs.by_half.Reads as by-half-reads

pub type_with_once : OneAnswer 0 type-with-kinds.ps type-with-kinds.r type-with-reads.Post
type_with_once κs a x y s t p q = p ∙ sym q

pub has_mark_once : OneAnswer 0 has-mark-kinds.ps has-mark-kinds.r has-mark-reads.Post
has_mark_once κs a x y s t p q = p ∙ sym q

pub type_alone_once : OneAnswer 0 type-alone-kinds.ps type-alone-kinds.r type-alone-reads.Post
type_alone_once κs a x y s t p q = p ∙ sym q

pub is_even_once : OneAnswer 0 is-even-kinds.ps is-even-kinds.r is-even-reads.Post
is_even_once κs a x y s t p q = p ∙ sym q

pub carries_two_once : OneAnswer 0 carries-two-kinds.ps carries-two-kinds.r carries-two-reads.Post
carries_two_once κs a x y s t p q = p ∙ sym q

pub by_half_once : OneAnswer 0 by-half-kinds.ps by-half-kinds.r by-half-reads.Post
by_half_once κs a x y s t p q = p ∙ sym q
