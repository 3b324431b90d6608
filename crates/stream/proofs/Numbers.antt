-- Which numbers the refusal of a check can have, 1 to 5, 7 to 12, 14, 15, 17 to 22 and 29; a seek has 16 too. Bytes lack with 5 alone.
use Prim.Native.Nat.{ℕ, zero, suc, ◌+◌, ◌≤◌}
use mathlib.Core.Path.{refl}
use mathlib.Core.Bool.{Bool, true, false}
use mathlib.Core.List.{List, [], ◌∷◌}
use mathlib.Core.Logic.{◌⊎◌, inl, inr}
use native.Mathlib.Omega.{arith}
use lib.ListN.{length, replicate}
use lib.Dec.{ltb, eqb}
use Rattle.std.specs.Prelude.{Option, Some, None, Result, Ok, Err}
use Rattle.plate.specs.Plate.{number}
use Rattle.plate.specs.declared.Refusal.{Refusal}
use Rattle.plate.proofs.Numbers.{either, Among, wider}
use Rattle.piece.specs.Piece.{piece_at}
use Rattle.piece.proofs.Numbers.{PieceFault, OfPiece, piece_numbers}
use Rattle.order.specs.Order.{started}
use Rattle.order.specs.declared.Progress.{Progress}
use Rattle.order.specs.declared.Step.{Step}
use Rattle.order.specs.declared.Step.TheVariants as step
use Rattle.piece.specs.declared.Piece.{Piece}
use Rattle.order.proofs.Numbers.{OfStep, step_numbers}
use Rattle.stream.specs.Stream.{Placed, End, closed, runs_out, stops, Packets, types_after, on_piece, packets_from, packets, ran_out, on_step, type_for, step_at, judge_packets, check_of, first_of, or_not_there, if_checked, seek_of}
use Rattle.stream.specs.WrongForm.{CheckNumber}

abbrev pub CheckFault : Refusal → Type 0
CheckFault r = Among 1 5 r ⊎ (Among 7 12 r ⊎ (Among 14 15 r ⊎ (Among 17 22 r ⊎ Among 29 29 r)))

late : (lo hi : ℕ) (r : Refusal) → 17 ≤ lo → hi ≤ 22 → Among lo hi r → CheckFault r
late lo hi r l m h = inr (inr (inr (inl (wider 17 22 r l m h))))

of_fault : (r : Refusal) → PieceFault r → CheckFault r
of_fault r (inl h) = inl h
of_fault r (inr (inl h)) = inr (inl h)
of_fault r (inr (inr (inl h))) = inr (inr (inl h))
of_fault r (inr (inr (inr (inl h)))) = late 17 17 r (omega arith) (omega arith) h
of_fault r (inr (inr (inr (inr h)))) = inr (inr (inr (inr h)))

-- the numbers alone, and in one range
pub fault_number : (r : Refusal) → CheckFault r → CheckNumber (number r)
fault_number r (inl h) = inl (h.0, h.1)
fault_number r (inr (inl h)) = inr (inl (h.0, h.1))
fault_number r (inr (inr (inl h))) = inr (inr (inl (h.0, h.1)))
fault_number r (inr (inr (inr (inl h)))) = inr (inr (inr (inl (h.0, h.1))))
fault_number r (inr (inr (inr (inr h)))) = inr (inr (inr (inr (omega (arith, h.0, h.1)))))

pub in_one : (r : Refusal) → CheckFault r → Among 1 29 r
in_one r (inl h) = wider 1 29 r (omega arith) (omega arith) h
in_one r (inr (inl h)) = wider 1 29 r (omega arith) (omega arith) h
in_one r (inr (inr (inl h))) = wider 1 29 r (omega arith) (omega arith) h
in_one r (inr (inr (inr (inl h)))) = wider 1 29 r (omega arith) (omega arith) h
in_one r (inr (inr (inr (inr h)))) = wider 1 29 r (omega arith) (omega arith) h

-- ---- how the packets end
abbrev OfEnd : End → Type 0
OfEnd closed = Unit {0}
OfEnd runs_out = Unit {0}
OfEnd (stops r) = CheckFault r

abbrev Ends : Packets → Type 0
Ends ps = OfEnd ps.end

packets_numbers : (s : List ℕ) (f : ℕ) (first : Bool) (types : List ℕ) (at : ℕ) → Ends (packets_from s f first types at)
unfolding packets_from
packets_numbers s zero first types at = tt
packets_numbers s (suc f) first types at =
    either Ends (ltb at (length s)) (go (λ now_types next. packets_from s f false now_types next) (λ now_types next. packets_numbers s f false now_types next) (piece_at s at first) (piece_numbers s at first)) tt
  where
    go : (next : List ℕ → ℕ → Packets) → ((ts : List ℕ) (o : ℕ) → Ends (next ts o)) → (a : Result Piece Refusal) → OfPiece a → Ends (on_piece s at types next a)
    go next k (Err r) h = of_fault r h
    go next k (Ok x) h = either Ends (eqb x.packet_type 0xFB) tt (k (types_after s at x types) (at + x.len))

-- ---- the check
abbrev pub OfCheck : Result ℕ Refusal → Type 0
OfCheck (Ok n) = Unit {0}
OfCheck (Err r) = CheckFault r

pub out_numbers : (count n : ℕ) → Among 17 18 (ran_out count n)
unfolding ran_out
out_numbers count n = either (Among 17 18) (eqb count 0) (omega arith, omega arith, λ n. refl) (omega arith, omega arith, λ n. refl)

judge_numbers : (n : ℕ) (xs : List Placed) (e : End) → OfEnd e → (p : Progress) → OfCheck (judge_packets n p xs e)
unfolding judge_packets
judge_numbers n [] closed h p = late 17 18 (ran_out p.count n) (omega arith) (omega arith) (out_numbers p.count n)
judge_numbers n [] runs_out h p = late 17 18 (ran_out p.count n) (omega arith) (omega arith) (out_numbers p.count n)
judge_numbers n [] (stops r) h p = h
judge_numbers n (x ∷ xs) e h p =
    go (λ q. judge_packets n q xs e) (judge_numbers n xs e h) (step_at n p x) (step_numbers p x.piece x.at (type_for x.types x.piece.track) (ltb (x.at + x.piece.len) n))
  where
    go : (next : Progress → Result ℕ Refusal) → ((q : Progress) → OfCheck (next q)) → (a : Result Step Refusal) → OfStep a → OfCheck (on_step next a)
    go next k (Ok (step.Next q)) i = k q
    go next k (Ok (step.Ended m)) i = tt
    go next k (Err r) i = late 18 22 r (omega arith) (omega arith) i

pub check_numbers : (s : List ℕ) → OfCheck (check_of s)
unfolding check_of packets
check_numbers s =
    judge_numbers (length s) (packets_from s (suc (length s)) true (replicate 64 0) 0).list (packets_from s (suc (length s)) true (replicate 64 0) 0).end
    (packets_numbers s (suc (length s)) true (replicate 64 0) 0) started

-- ---- seek
abbrev pub OfSeek : Result ℕ Refusal → Type 0
OfSeek (Ok o) = Unit {0}
OfSeek (Err r) = Among 1 29 r

pub seek_numbers : (s : List ℕ) (track field : ℕ) → OfSeek (seek_of s track field)
unfolding seek_of
seek_numbers s track field = go (check_of s) (check_numbers s) (first_of track field (packets s).list)
  where
    go : (a : Result ℕ Refusal) → OfCheck a → (o : Option ℕ) → OfSeek (if_checked a (or_not_there o))
    go (Err r) h o = in_one r h
    go (Ok n) h (Some o) = tt
    go (Ok n) h None = (omega arith, omega arith, λ n. refl)
