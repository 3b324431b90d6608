-- An accepted check's number is the number of the stream's packets.
use Prim.Native.Nat.{ℕ, zero, suc, ◌+◌}
use mathlib.Core.Path.{◌≡◌}
use mathlib.Core.Bool.{Bool, true, false}
use mathlib.Core.List.{List}
use native.Mathlib.Omega.{arith}
use lib.ListN.{length, replicate}
use lib.Dec.{eqb, ltb}
use Rattle.std.specs.Prelude.{Result, Ok, Err}
use Rattle.plate.specs.Choice.{pick}
use Rattle.plate.specs.Ended.{none}
use Rattle.plate.specs.Plate.{refusal}
use Rattle.piece.specs.Piece.{piece_at}
use Rattle.order.specs.Order.{started, misplaced, overdue, unmapped, progress_after, ending, step_of}
use Rattle.order.specs.declared.Progress.{Progress}
use Rattle.order.specs.declared.Step.TheVariants as step
use Rattle.piece.specs.declared.Piece.{Piece}
use Rattle.plate.specs.declared.Refusal.{Refusal}
use Rattle.plate.specs.declared.Fault.TheVariants as fault
use Rattle.stream.specs.Stream.{Packets, closed, runs_out, types_after, on_piece, packets_from, packets, on_step, type_for, judge_packets, check_of}

-- a refusal is no number of packets
no : {X : Type 0} (r : Refusal) (n : ℕ) → ◌≡◌ {A = Result ℕ Refusal} (Err r) (Ok n) → X
no r n e = absurd (let z : ◌≡◌ {A = ℕ} 0 1 = cc in omega arith)

-- of some packets, after some progress: if they pass, the number is theirs and that of the packets before
abbrev Counts : List ℕ → Packets → Progress → ℕ → Type 0
Counts s ps p n = judge_packets (length s) p ps.list ps.end ≡ Ok n → p.count + length ps.list ≡ n

module _ (s : List ℕ) (rest : List ℕ → ℕ → Packets) (next : (types : List ℕ) (at : ℕ) (q : Progress) (m : ℕ) → Counts s (rest types at) q m) where
  -- a packet and the rest
  piece_counts : (types : List ℕ) (at : ℕ) (p : Progress) (n : ℕ) (x : Result Piece Refusal) → Counts s (on_piece s at types rest x) p n
  unfolding judge_packets step_of ending progress_after
  piece_counts types at p n (Err r) e = no _ n e
  piece_counts types at p n (Ok x) e =
      go (misplaced p.eos_due p.flt x.packet_type) (overdue p.since_map x.packet_type) (unmapped x.packet_type x.media_type (type_for (types_after s at x types) x.track)) (eqb x.packet_type 0xFB)
      (ltb (at + x.len) (length s)) p.umf e
    where
      go : (a b c d more umf : Bool)
          → on_step (λ q. judge_packets (length s) q (pick d (none closed) (rest (types_after s at x types) (at + x.len))).list (pick d (none closed) (rest (types_after s at x types) (at + x.len))).end)
          (pick a (Err (refusal fault.LocatorPlace at))
          (pick b (Err (refusal fault.MapOverdue at))
          (pick c (Err (refusal fault.Unmapped at))
          (pick d (pick more (Err (refusal fault.StreamEnd at)) (pick umf (Ok (step.Ended (p.count + 1))) (Err (refusal fault.NoUmf at)))) (Ok (step.Next (progress_after p x.packet_type)))))))
          ≡ Ok n
          → p.count + suc (length (pick d (none closed) (rest (types_after s at x types) (at + x.len))).list) ≡ n
      go true b c d more umf e = no _ n e
      go false true c d more umf e = no _ n e
      go false false true d more umf e = no _ n e
      go false false false true true umf e = no _ n e
      go false false false true false true e = let z : p.count + 1 ≡ n = cc in omega arith
      go false false false true false false e = no _ n e
      go false false false false more umf e = let z = next (types_after s at x types) (at + x.len) (progress_after p x.packet_type) n e in omega arith

  -- or no byte left
  turn_counts : (types : List ℕ) (at : ℕ) (p : Progress) (n : ℕ) (x : Result Piece Refusal) (b : Bool) → Counts s (pick b (on_piece s at types rest x) (none runs_out)) p n
  unfolding judge_packets
  turn_counts types at p n x true e = piece_counts types at p n x e
  turn_counts types at p n x false e = no _ n e

counted : (s : List ℕ) (f : ℕ) (first : Bool) (types : List ℕ) (at : ℕ) (p : Progress) (n : ℕ) → Counts s (packets_from s f first types at) p n
unfolding packets_from judge_packets
counted s zero first types at p n e = no _ n e
counted s (suc f) first types at p n e =
    turn_counts s (λ now_types next. packets_from s f false now_types next) (λ types next q m. counted s f false types next q m) types at p n (piece_at s at first) (ltb at (length s)) e

pub check_counts : (s : List ℕ) (n : ℕ) → check_of s ≡ Ok n → length (packets s).list ≡ n
unfolding check_of packets
check_counts s n e = let z = counted s (suc (length s)) true (replicate 64 0) 0 started n e in omega arith
