-- Any two outcomes that a contract of this crate allows are equal.
use mathlib.Core.Path.{sym, ◌∙◌}
use Rattle.plate.proofs.Outcome.{OneAnswer}
use Rattle.map_answer.proofs.bare.Kinds as bare-kinds
use Rattle.map_answer.proofs.bare.Reads as bare-reads
use Rattle.map_answer.proofs.value_at.Kinds as value-at-kinds
use Rattle.map_answer.proofs.value_at.Reads as value-at-reads
use Rattle.map_answer.proofs.is_allowed.Kinds as is-allowed-kinds
use Rattle.map_answer.proofs.is_allowed.Reads as is-allowed-reads
use Rattle.map_answer.proofs.code_at.Kinds as code-at-kinds
use Rattle.map_answer.proofs.code_at.Reads as code-at-reads
use Rattle.map_answer.proofs.is_progressive.Kinds as is-progressive-kinds
use Rattle.map_answer.proofs.is_progressive.Reads as is-progressive-reads
use Rattle.map_answer.proofs.is_null.Kinds as is-null-kinds
use Rattle.map_answer.proofs.is_null.Reads as is-null-reads
use Rattle.map_answer.proofs.material_says.Kinds as material-says-kinds
use Rattle.map_answer.proofs.material_says.Reads as material-says-reads
use Rattle.map_answer.proofs.record.Kinds as record-kinds
use Rattle.map_answer.proofs.record.Reads as record-reads

pub bare_once : OneAnswer 0 bare-kinds.ps bare-kinds.r bare-reads.Post
bare_once κs a x y s t p q = p ∙ sym q

pub value_at_once : OneAnswer 1 value-at-kinds.ps value-at-kinds.r value-at-reads.Post
value_at_once κs a x y s t p q = p ∙ sym q

pub is_allowed_once : OneAnswer 0 is-allowed-kinds.ps is-allowed-kinds.r is-allowed-reads.Post
is_allowed_once κs a x y s t p q = p ∙ sym q

pub code_at_once : OneAnswer 1 code-at-kinds.ps code-at-kinds.r code-at-reads.Post
code_at_once κs a x y s t p q = p ∙ sym q

pub is_progressive_once : OneAnswer 0 is-progressive-kinds.ps is-progressive-kinds.r is-progressive-reads.Post
is_progressive_once κs a x y s t p q = p ∙ sym q

pub is_null_once : OneAnswer 0 is-null-kinds.ps is-null-kinds.r is-null-reads.Post
is_null_once κs a x y s t p q = p ∙ sym q

pub material_says_once : OneAnswer 1 material-says-kinds.ps material-says-kinds.r material-says-reads.Post
material_says_once κs a x y s t p q = p ∙ sym q

pub record_once : OneAnswer 1 record-kinds.ps record-kinds.r record-reads.Post
record_once κs a x y s t p q = p ∙ sym q
