-- An accepted stream that is cut inside a packet, behind its header: the packets before it pass as they did, and the check gives 5 at it, with what was cut off of it.
use Prim.Native.Nat.{ℕ, zero, suc, ◌+◌, ◌-◌, ◌<◌, ◌≤◌}
use mathlib.Core.Path.{◌≡◌, refl, sym, ◌∙◌, ap}
use mathlib.Core.Bool.{Bool, true, false}
use mathlib.Core.List.{List, [], ◌∷◌, ◌++◌}
use native.Mathlib.Omega.{arith}
use lib.ListN.{length, take, replicate}
use lib.Seq.{length-take-le}
use lib.Dec.{ltb, eqb}
use borrow.Author.Tests.{ltb-true}
use Rattle.std.specs.Prelude.{Result, Ok, Err}
use Rattle.plate.specs.Choice.{pick}
use Rattle.plate.specs.Ended.{none, in_front}
use Rattle.plate.specs.Plate.{torn}
use Rattle.packet.specs.Packet.{header_at}
use Rattle.packet.proofs.Torn.{cut_off}
use Rattle.piece.specs.Piece.{piece_at}
use Rattle.piece.specs.declared.Piece.{Piece}
use Rattle.piece.proofs.Laws.{told, cut_within, piece_within}
use Rattle.order.specs.Order.{started}
use Rattle.order.specs.declared.Progress.{Progress}
use Rattle.order.specs.declared.Step.{Step}
use Rattle.order.specs.declared.Step.TheVariants as step
use Rattle.plate.specs.declared.Refusal.{Refusal}
use Rattle.order.proofs.Laws.{step_next, step_ended}
use Rattle.stream.specs.Stream.{Placed, Packets, runs_out, closed, types_after, on_piece, packets_from, packets, on_step, type_for, step_at, judge_packets, check_of}
use Rattle.stream.specs.Lacking.{CheckRefuses, SeekRefuses, StreamCutOff}
use Rattle.stream.proofs.Laws.{turn, fuel, judged, onward}
use Rattle.stream.proofs.Sought.{refused_alike}

-- x is the packet, cut at k of its own bytes
module _ (s : List ℕ) (x : Placed) (after : List Placed) (k : ℕ) (header : 16 ≤ k) (inside : k < x.piece.len) where
  abbrev part : List ℕ
  part = take (x.at + k) s

  -- the packet lies behind an offset, and from there on the part comes to the refusal
  record Comes (at : ℕ) (whole : Result ℕ Refusal) : Type 0 where
    behind : at ≤ x.at
    within : x.at + x.piece.len ≤ length s
    same : whole ≡ Err (torn x.at (x.piece.len - k))

  abbrev Rest : ℕ → Type 0
  Rest f = (g : ℕ) (first : Bool) (types : List ℕ) (at : ℕ) (p : Progress) (n : ℕ) (before : List Placed) → length s - at < g
      → judged (length s) p (packets_from s f first types at) ≡ Ok n → (packets_from s f first types at).list ≡ before ++ (x ∷ after)
      → Comes at (judged (length part) p (packets_from part g first types at))

  no_list : {X : Type 0} (before : List Placed) → [] ≡ before ++ (x ∷ after) → X
  no_list [] e = absurd (let z : ◌≡◌ {A = ℕ} 0 1 = cc in omega arith)
  no_list (y ∷ ys) e = absurd (let z : ◌≡◌ {A = ℕ} 0 1 = cc in omega arith)

  module _ (f : ℕ) (rest : Rest f) (g : ℕ) (first : Bool) (types : List ℕ) (at : ℕ) (p : Progress) (n : ℕ) (h : length s - at < g) (l : at < length s) (y : Piece) (w : piece_at s at first ≡ Ok y) where
    abbrev here : Placed
    here = record { at = at; piece = y; types = types_after s at y types }

    abbrev behind : Packets
    behind = pick (eqb y.packet_type 0xFB) (none closed) (packets_from s f false (types_after s at y types) (at + y.len))

    -- it is the packet that is cut
    this : here ≡ x → Comes at (judged (length part) p (packets_from part g first types at))
    unfolding judge_packets piece_at
    this z =
        let b = told s at first y w in
        let o : x.at ≡ at = sym (ap (λ (v : Placed). v.at) z) in
        let m : x.piece.len ≡ b.head.len = sym (ap (λ (v : Placed). v.piece.len) z) ∙ b.lens in
        let c : length part ≡ x.at + k = length-take-le (x.at + k) s (omega (arith, b.cut.within, b.lens)) in
        let t : header_at part at ≡ Err (torn at (b.head.len - k)) =
        ap (λ (j : ℕ). header_at (take (j + k) s) at) o ∙ cut_off s at b.head b.header k header (omega arith) in
        let u : judged (length part) p (packets_from part g first types at) ≡ Err (torn at (b.head.len - k)) =
        ap (judged (length part) p) (turn part g first types at (omega arith) (omega arith)) ∙ rw t in
        record {
          behind = omega arith;
          within = omega (arith, b.cut.within, b.lens);
          same =
              u
              ∙ (ap (λ (j : ℕ). Err (torn j (b.head.len - k))) (sym o) ∙ ap (λ (j : ℕ). Err (torn x.at (j - k))) (sym m));
        }

    -- it stands before that
    earlier : (before : List Placed) → behind.list ≡ before ++ (x ∷ after) → (a : Result Step Refusal) → step_at (length s) p here ≡ a → on_step (λ q. judged (length s) q behind) a ≡ Ok n
        → Comes at (judged (length part) p (packets_from part g first types at))
    earlier before m (Err r) i e = absurd (let z : ◌≡◌ {A = ℕ} 0 1 = cc in omega arith)
    earlier before m (Ok (step.Ended j)) i e =
        no_list before (rw (step_ended p y at (type_for (types_after s at y types) y.track) (ltb (at + y.len) (length s)) j i) at m)
    earlier before m (Ok (step.Next q)) i e =
        let v = step_next p y at (type_for (types_after s at y types) y.track) (ltb (at + y.len) (length s)) q i in
        let b = told s at first y w in
        let c = rest (g - 1) false (types_after s at y types) (at + y.len) q n before (omega (arith, b.cut.least, b.cut.within)) (rw v.0 at e) (rw v.0 at m) in
        let d : length part ≡ x.at + k = length-take-le (x.at + k) s (omega (arith, c.within)) in
        record {
          behind = omega (arith, c.behind);
          within = c.within;
          same =
              onward s part g first types at p y q (omega arith) (omega (arith, c.behind)) (piece_within s at first y w (x.at + k) (omega (arith, c.behind)) (omega (arith, c.within)))
              (cut_within s at y.len (x.at + k) (omega (arith, c.behind)) (omega (arith, c.within))) i
              ∙ c.same;
        }

    on_list : (before : List Placed) → (here ∷ behind.list) ≡ before ++ (x ∷ after) → judged (length s) p (in_front here behind) ≡ Ok n
        → Comes at (judged (length part) p (packets_from part g first types at))
    unfolding judge_packets
    on_list [] m e = this cc
    on_list (b ∷ bs) m e = let z : behind.list ≡ bs ++ (x ∷ after) = cc in earlier bs z (step_at (length s) p here) refl e

  module _ (f : ℕ) (rest : Rest f) (g : ℕ) (first : Bool) (types : List ℕ) (at : ℕ) (p : Progress) (n : ℕ) (before : List Placed) (h : length s - at < g) where
    on_piece_lem : at < length s → (a : Result Piece Refusal) → piece_at s at first ≡ a → judged (length s) p (on_piece s at types (λ now_types next. packets_from s f false now_types next) a) ≡ Ok n
        → (on_piece s at types (λ now_types next. packets_from s f false now_types next) a).list ≡ before ++ (x ∷ after)
        → Comes at (judged (length part) p (packets_from part g first types at))
    unfolding judge_packets
    on_piece_lem l (Err q) w e m = absurd (let z : ◌≡◌ {A = ℕ} 0 1 = cc in omega arith)
    on_piece_lem l (Ok y) w e m = on_list f rest g first types at p n h l y w before m e

    on_bytes_lem : (b : Bool) → ltb at (length s) ≡ b
        → judged (length s) p (pick b (on_piece s at types (λ now_types next. packets_from s f false now_types next) (piece_at s at first)) (none runs_out)) ≡ Ok n
        → (pick b (on_piece s at types (λ now_types next. packets_from s f false now_types next) (piece_at s at first)) (none runs_out)).list ≡ before ++ (x ∷ after)
        → Comes at (judged (length part) p (packets_from part g first types at))
    on_bytes_lem true l e m = on_piece_lem (ltb-true at (length s) l) (piece_at s at first) refl e m
    on_bytes_lem false l e m = no_list before m

  comes : (f : ℕ) → Rest f
  unfolding packets_from
  comes zero g first types at p n before h e m = no_list before m
  comes (suc f) g first types at p n before h e m = on_bytes_lem f (comes f) g first types at p n before h (ltb at (length s)) refl e m

pub check_cut : StreamCutOff CheckRefuses
unfolding check_of packets
check_cut s n e before x after m k h l =
    let c = comes s x after k h l (suc (length s)) (suc (length s)) true (replicate 64 0) 0 started n before (omega arith) e m in
    let d : length (take (x.at + k) s) ≡ x.at + k = length-take-le (x.at + k) s (omega (arith, c.within)) in
    ap (judged (length (take (x.at + k) s)) started)
    (fuel (take (x.at + k) s) (suc (length (take (x.at + k) s))) (suc (length s)) true (replicate 64 0) 0 (omega arith) (omega (arith, c.within)))
    ∙ c.same

pub seek_cut : (track field : ℕ) → StreamCutOff (SeekRefuses track field)
seek_cut track field s n e before x after m k h l = refused_alike track field (take (x.at + k) s) (torn x.at (x.piece.len - k)) (check_cut s n e before x after m k h l)
