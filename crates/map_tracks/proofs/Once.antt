-- Any two outcomes that a contract of this crate allows are equal.
use Prim.Native.Nat.{ℕ}
use mathlib.Core.Path.{ap, sym, ◌∙◌}
use mathlib.Core.List.{List}
use Rattle.plate.proofs.Outcome.{OneAnswer}
use Rattle.map_tracks.proofs.judge.Kinds as judge-kinds
use Rattle.map_tracks.proofs.judge.Reads as judge-reads
use Rattle.map_tracks.proofs.count.Kinds as count-kinds
use Rattle.map_tracks.proofs.count.Reads as count-reads
use Rattle.map_tracks.proofs.kth_record.Kinds as kth-record-kinds
use Rattle.map_tracks.proofs.kth_record.Reads as kth-record-reads
use Rattle.map_tracks.proofs.record_of_id.Kinds as record-of-id-kinds
use Rattle.map_tracks.proofs.record_of_id.Reads as record-of-id-reads
use Rattle.map_tracks.proofs.types_by_id.Kinds as types-by-id-kinds
use Rattle.map_tracks.proofs.types_by_id.Reads as types-by-id-reads

pub judge_once : OneAnswer 1 judge-kinds.ps judge-kinds.r judge-reads.Post
judge_once κs a x y s t p q = p ∙ sym q

pub count_once : OneAnswer 1 count-kinds.ps count-kinds.r count-reads.Post
count_once κs a x y s t p q = p ∙ sym q

pub kth_record_once : OneAnswer 1 kth-record-kinds.ps kth-record-kinds.r kth-record-reads.Post
kth_record_once κs a x y s t p q = p ∙ sym q

pub record_of_id_once : OneAnswer 1 record-of-id-kinds.ps record-of-id-kinds.r record-of-id-reads.Post
record_of_id_once κs a x y s t p q = p ∙ sym q

pub types_by_id_once : OneAnswer 1 types-by-id-kinds.ps types-by-id-kinds.r types-by-id-reads.Post
types_by_id_once κs a x y s t p q = ap (λ (k : List ℕ). record { media_types = k }) (p ∙ sym q)
