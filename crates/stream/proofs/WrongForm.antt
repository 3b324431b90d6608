-- A stream's 29 is that of a map in it; the refusal of a map in a stream, behind bytes that only run out or at the start, is the stream's; and which numbers a check can give.
use Prim.Native.Nat.{ℕ, zero, suc, ◌+◌, ◌<◌}
use mathlib.Core.Path.{◌≡◌, refl, sym, ◌∙◌, ap, subst}
use mathlib.Core.Bool.{Bool, true, false}
use mathlib.Core.List.{List, [], ◌∷◌}
use native.Mathlib.Omega.{arith}
use native.Mathlib.Nat.{add-zero}
use lib.ListN.{length, take, drop, replicate, length-drop, take-append-drop}
use lib.Seq.{length-take-le}
use lib.Dec.{ltb, eqb}
use borrow.Author.Tests.{lt-ltb}
use Rattle.std.specs.Prelude.{Result, Ok, Err}
use Rattle.plate.specs.Choice.{pick}
use Rattle.plate.specs.Ended.{none}
use Rattle.plate.specs.Plate.{refusal, number}
use Rattle.plate.specs.declared.Refusal.{Refusal}
use Rattle.packet.proofs.Laws.{whole}
use Rattle.map.specs.Map.{map_verdict}
use Rattle.piece.specs.Piece.{moved, of_map, content_of, opens, piece_at}
use Rattle.piece.specs.declared.Piece.{Piece}
use Rattle.piece.proofs.Numbers.{OfWrongForm, wrong_form_piece}
use Rattle.order.specs.Order.{started}
use Rattle.order.specs.declared.Progress.{Progress}
use Rattle.order.specs.declared.Step.{Step}
use Rattle.order.specs.declared.Step.TheVariants as step
use Rattle.plate.specs.declared.Fault.TheVariants as fault
use Rattle.order.proofs.Numbers.{OfStep, step_numbers}
use Rattle.stream.specs.Stream.{Placed, End, closed, runs_out, stops, types_after, on_piece, packets_from, packets, ran_out, on_step, type_for, step_at, judge_packets, check_of}
use Rattle.stream.specs.WrongForm.{CheckNumber, StreamWrongForm, MapThere, FirstMap}
use Rattle.stream.specs.Lacking.{CheckRefuses, bytes_of}
use Rattle.stream.proofs.RunsOut.{refused_behind}
use Rattle.stream.proofs.Numbers.{fault_number, OfCheck, out_numbers, check_numbers}

not_out : {X : Type 0} (r : Refusal) → number r ≡ 29 → (count n : ℕ) → ◌≡◌ {A = Result ℕ Refusal} (Err (ran_out count n)) (Err r) → X
not_out r k count n e = let q : ran_out count n ≡ r = cc in absurd (let z : number (ran_out count n) ≡ 29 = ap (λ (x : Refusal). (number x)) q ∙ k in omega (arith, (out_numbers count n).1))

-- 29 is no step's: the packets stop with it
stops_there : (r : Refusal) → number r ≡ 29 → (n : ℕ) (p : Progress) (xs : List Placed) (e : End) → judge_packets n p xs e ≡ Err r → e ≡ stops r
unfolding judge_packets
stops_there r k n p [] closed h = not_out r k p.count n h
stops_there r k n p [] runs_out h = not_out r k p.count n h
stops_there r k n p [] (stops q) h = let z : q ≡ r = cc in ap stops z
stops_there r k n p (x ∷ xs) e h = go (step_at n p x) refl (λ q. stops_there r k n q xs e) h
  where
    go : (a : Result Step Refusal) → step_at n p x ≡ a → ((q : Progress) → judge_packets n q xs e ≡ Err r → e ≡ stops r) → on_step (λ q. judge_packets n q xs e) a ≡ Err r → e ≡ stops r
    go (Ok (step.Next q)) f later h = later q h
    go (Ok (step.Ended m)) f later h = absurd (let z : ◌≡◌ {A = ℕ} 0 1 = cc in omega arith)
    go (Err q) f later h =
        let z : q ≡ r = cc in
        let b = subst OfStep f (step_numbers p x.piece x.at (type_for x.types x.piece.track) (ltb (x.at + x.piece.len) n)) in
        absurd (let m : number q ≡ 29 = ap (λ (y : Refusal). (number y)) z ∙ k in omega (arith, b.1))

-- the packet that they stop at stands behind those that passed
stopped_at : (s : List ℕ) (r : Refusal) → number r ≡ 29 → (f : ℕ) (first : Bool) (types : List ℕ) (at : ℕ) → (packets_from s f first types at).end ≡ stops r
    → OfWrongForm s (at + bytes_of (packets_from s f first types at).list) r
unfolding packets_from
stopped_at s r k zero first types at e = absurd (let z : ◌≡◌ {A = ℕ} 0 1 = cc in omega arith)
stopped_at s r k (suc f) first types at e = go (ltb at (length s)) (piece_at s at first) refl (λ now_types next. stopped_at s r k f false now_types next) e
  where
    on : (x : Piece) → ((now_types : List ℕ) (o : ℕ) → (packets_from s f false now_types o).end ≡ stops r → OfWrongForm s (o + bytes_of (packets_from s f false now_types o).list) r)
        → (b : Bool) → (pick b (none closed) (packets_from s f false (types_after s at x types) (at + x.len))).end ≡ stops r
        → OfWrongForm s (at + (x.len + bytes_of (pick b (none closed) (packets_from s f false (types_after s at x types) (at + x.len))).list)) r
    on x later true e = absurd (let z : ◌≡◌ {A = ℕ} 0 1 = cc in omega arith)
    on x later false e =
        let o : at + x.len + bytes_of (packets_from s f false (types_after s at x types) (at + x.len)).list ≡ at + (x.len + bytes_of (packets_from s f false (types_after s at x types) (at + x.len)).list) = omega arith in
        rw o at (later (types_after s at x types) (at + x.len) e)

    go : (b : Bool) (a : Result Piece Refusal) → piece_at s at first ≡ a
        → ((now_types : List ℕ) (o : ℕ) → (packets_from s f false now_types o).end ≡ stops r → OfWrongForm s (o + bytes_of (packets_from s f false now_types o).list) r)
        → (pick b (on_piece s at types (λ now_types o. packets_from s f false now_types o) a) (none runs_out)).end ≡ stops r
        → OfWrongForm s (at + bytes_of (pick b (on_piece s at types (λ now_types o. packets_from s f false now_types o) a) (none runs_out)).list) r
    go false a w later e = absurd (let z : ◌≡◌ {A = ℕ} 0 1 = cc in omega arith)
    go true (Err q) w later e = let z : q ≡ r = cc in rw add-zero (wrong_form_piece s at first r (w ∙ ap Err z) k)
    go true (Ok x) w later e = on x later (eqb x.packet_type 0xFB) e

pub check_number : (s : List ℕ) (r : Refusal) → check_of s ≡ Err r → CheckNumber (number r)
check_number s r e = fault_number r (subst OfCheck e (check_numbers s))

pub check_29 : (s : List ℕ) (r : Refusal) → check_of s ≡ Err r → number r ≡ 29 → StreamWrongForm s r
unfolding check_of packets
check_29 s r e k =
    let h = stops_there r k (length s) started (packets s).list (packets s).end e in
    let o : 0 + bytes_of (packets s).list ≡ bytes_of (packets s).list = omega arith in
    let w : OfWrongForm s (bytes_of (packets s).list) r = subst (λ (a : ℕ). OfWrongForm s a r) o (stopped_at s r k (suc (length s)) true (replicate 64 0) 0 h) in
    record {
      ends = h;
      len = w.len;
      header = w.header;
      own = w.own;
      verdict = w.verdict;
      number = sym (ap (λ (x : Refusal). (number x)) w.place) ∙ k;
      place = ap (λ (x : Refusal). x.place) w.place;
    }

-- a map behind bytes that only run out
pub map_there : MapThere CheckRefuses
unfolding piece_at content_of opens
map_there s at len e h own v =
    let w = whole s at (record { packet_type = 0xBC; len = len }) h in
    let n : length (take at s) ≡ at = length-take-le at s (omega (arith, w.least, w.within)) in
    let r = refused_behind (take at s) (drop at s) (rw n e) (omega (arith, length-drop at s, w.least, w.within)) (moved at own) (λ first. rw (take-append-drop at s, n, h) (go first)) in
    rw (take-append-drop at s) at r
  where
    go : (first : Bool) → pick (opens first 0xBC) (of_map at (length (take len (drop at s))) (map_verdict (take len (drop at s)))) (Err (refusal fault.NoMapFirst at)) ≡ Err (moved at own)
    go true = rw v
    go false = rw v

-- the map that opens a stream
pub first_map : FirstMap CheckRefuses
unfolding check_of packets packets_from piece_at content_of opens judge_packets
first_map s len r h v =
    let w = whole s 0 (record { packet_type = 0xBC; len = len }) h in
    let l : 0 < length s = omega (arith, w.least, w.within) in
    let z : moved 0 r ≡ r = ap (λ (p : ℕ). record { fault = r.fault; place = p; lacking = r.lacking }) (add-zero r.place) in
    rw (lt-ltb 0 (length s) l, h, v) (ap Err z)
