-- Any two outcomes that a contract of this crate allows are equal.
use mathlib.Core.Path.{sym, ◌∙◌}
use Rattle.plate.proofs.Outcome.{OneAnswer}
use Rattle.media_type.proofs.is_known.Kinds as is-known-kinds
use Rattle.media_type.proofs.is_known.Reads as is-known-reads
use Rattle.media_type.proofs.is_mpeg.Kinds as is-mpeg-kinds
use Rattle.media_type.proofs.is_mpeg.Reads as is-mpeg-reads
use Rattle.media_type.proofs.wrong_form.Kinds as wrong-form-kinds
use Rattle.media_type.proofs.wrong_form.Reads as wrong-form-reads

pub is_known_once : OneAnswer 0 is-known-kinds.ps is-known-kinds.r is-known-reads.Post
is_known_once κs a x y s t p q = p ∙ sym q

pub is_mpeg_once : OneAnswer 0 is-mpeg-kinds.ps is-mpeg-kinds.r is-mpeg-reads.Post
is_mpeg_once κs a x y s t p q = p ∙ sym q

pub wrong_form_once : OneAnswer 0 wrong-form-kinds.ps wrong-form-kinds.r wrong-form-reads.Post
wrong_form_once κs a x y s t p q = p ∙ sym q
