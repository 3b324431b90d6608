-- Any two outcomes that a contract of this crate allows are equal.
use mathlib.Core.Path.{sym, ◌∙◌}
use Rattle.plate.proofs.Outcome.{OneAnswer}
use Rattle.umf_answer.proofs.word.Kinds as word-kinds
use Rattle.umf_answer.proofs.word.Reads as word-reads
use Rattle.umf_answer.proofs.half.Kinds as half-kinds
use Rattle.umf_answer.proofs.half.Reads as half-reads
use Rattle.umf_answer.proofs.shown_if.Kinds as shown-if-kinds
use Rattle.umf_answer.proofs.shown_if.Reads as shown-if-reads
use Rattle.umf_answer.proofs.read.Kinds as read-kinds
use Rattle.umf_answer.proofs.read.Reads as read-reads
use Rattle.umf_answer.proofs.is_in.Kinds as is-in-kinds
use Rattle.umf_answer.proofs.is_in.Reads as is-in-reads
use Rattle.umf_answer.proofs.is_track.Kinds as is-track-kinds
use Rattle.umf_answer.proofs.is_track.Reads as is-track-reads
use Rattle.umf_answer.proofs.track.Kinds as track-kinds
use Rattle.umf_answer.proofs.track.Reads as track-reads
use Rattle.umf_answer.proofs.user.Kinds as user-kinds
use Rattle.umf_answer.proofs.user.Reads as user-reads

pub word_once : OneAnswer 1 word-kinds.ps word-kinds.r word-reads.Post
word_once κs a x y s t p q = p ∙ sym q

pub half_once : OneAnswer 1 half-kinds.ps half-kinds.r half-reads.Post
half_once κs a x y s t p q = p ∙ sym q

pub shown_if_once : OneAnswer 0 shown-if-kinds.ps shown-if-kinds.r shown-if-reads.Post
shown_if_once κs a x y s t p q = p ∙ sym q

pub read_once : OneAnswer 1 read-kinds.ps read-kinds.r read-reads.Post
read_once κs a x y s t p q = p ∙ sym q

pub is_in_once : OneAnswer 1 is-in-kinds.ps is-in-kinds.r is-in-reads.Post
is_in_once κs a x y s t p q = p ∙ sym q

pub is_track_once : OneAnswer 0 is-track-kinds.ps is-track-kinds.r is-track-reads.Post
is_track_once κs a x y s t p q = p ∙ sym q

pub track_once : OneAnswer 1 track-kinds.ps track-kinds.r track-reads.Post
track_once κs a x y s t p q = p ∙ sym q

pub user_once : OneAnswer 1 user-kinds.ps user-kinds.r user-reads.Post
user_once κs a x y s t p q = p ∙ sym q
