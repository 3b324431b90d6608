-- Any two outcomes that a contract of this crate allows are equal.
use Prim.Native.Nat.{ℕ}
use mathlib.Core.Path.{ap, sym, ◌∙◌}
use mathlib.Core.List.{List}
use Rattle.plate.proofs.Outcome.{OneAnswer}
use Rattle.map.proofs.layout_of.Kinds as layout-of-kinds
use Rattle.map.proofs.layout_of.Reads as layout-of-reads
use Rattle.map.proofs.verdict_of.Kinds as verdict-of-kinds
use Rattle.map.proofs.verdict_of.Reads as verdict-of-reads
use Rattle.map.proofs.material_of.Kinds as material-of-kinds
use Rattle.map.proofs.material_of.Reads as material-of-reads
use Rattle.map.proofs.count_of.Kinds as count-of-kinds
use Rattle.map.proofs.count_of.Reads as count-of-reads
use Rattle.map.proofs.kth_of.Kinds as kth-of-kinds
use Rattle.map.proofs.kth_of.Reads as kth-of-reads
use Rattle.map.proofs.id_of.Kinds as id-of-kinds
use Rattle.map.proofs.id_of.Reads as id-of-reads
use Rattle.map.proofs.types_of.Kinds as types-of-kinds
use Rattle.map.proofs.types_of.Reads as types-of-reads
use Rattle.map.proofs.answer_of.Kinds as answer-of-kinds
use Rattle.map.proofs.answer_of.Reads as answer-of-reads
use Rattle.map.proofs.track_of.Kinds as track-of-kinds
use Rattle.map.proofs.track_of.Reads as track-of-reads
use Rattle.map.proofs.read.Kinds as read-kinds
use Rattle.map.proofs.read.Reads as read-reads
use Rattle.map.proofs.track.Kinds as track-kinds
use Rattle.map.proofs.track.Reads as track-reads

pub layout_of_once : OneAnswer 1 layout-of-kinds.ps layout-of-kinds.r layout-of-reads.Post
layout_of_once κs a x y s t p q = p ∙ sym q

pub verdict_of_once : OneAnswer 1 verdict-of-kinds.ps verdict-of-kinds.r verdict-of-reads.Post
verdict_of_once κs a x y s t p q = p ∙ sym q

pub material_of_once : OneAnswer 1 material-of-kinds.ps material-of-kinds.r material-of-reads.Post
material_of_once κs a x y s t p q = p ∙ sym q

pub count_of_once : OneAnswer 1 count-of-kinds.ps count-of-kinds.r count-of-reads.Post
count_of_once κs a x y s t p q = p ∙ sym q

pub kth_of_once : OneAnswer 1 kth-of-kinds.ps kth-of-kinds.r kth-of-reads.Post
kth_of_once κs a x y s t p q = p ∙ sym q

pub id_of_once : OneAnswer 1 id-of-kinds.ps id-of-kinds.r id-of-reads.Post
id_of_once κs a x y s t p q = p ∙ sym q

pub types_of_once : OneAnswer 1 types-of-kinds.ps types-of-kinds.r types-of-reads.Post
types_of_once κs a x y s t p q = ap (λ (k : List ℕ). record { media_types = k }) (p ∙ sym q)

pub answer_of_once : OneAnswer 1 answer-of-kinds.ps answer-of-kinds.r answer-of-reads.Post
answer_of_once κs a x y s t p q = p ∙ sym q

pub track_of_once : OneAnswer 1 track-of-kinds.ps track-of-kinds.r track-of-reads.Post
track_of_once κs a x y s t p q = p ∙ sym q

pub read_once : OneAnswer 1 read-kinds.ps read-kinds.r read-reads.Post
read_once κs a x y s t p q = p ∙ sym q

pub track_once : OneAnswer 1 track-kinds.ps track-kinds.r track-reads.Post
track_once κs a x y s t p q = p ∙ sym q
