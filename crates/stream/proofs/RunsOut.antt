-- A stream whose bytes only run out, at its last byte: with more bytes behind them the check comes to what stands there.
use Prim.Native.Nat.{ℕ, zero, suc, ◌+◌, ◌-◌, ◌<◌, ◌≤◌}
use mathlib.Core.Path.{◌≡◌, refl, ◌∙◌, ap, subst}
use mathlib.Core.Bool.{Bool, true, false}
use mathlib.Core.List.{List, ◌++◌}
use mathlib.Core.Logic.{inl, inr}
use native.Mathlib.Omega.{arith}
use lib.ListN.{length, replicate, length-append}
use lib.Dec.{ltb, eqb}
use borrow.Author.Tests.{ltb-true, ltb-false}
use Rattle.std.specs.Prelude.{Result, Ok, Err}
use Rattle.plate.specs.Choice.{pick}
use Rattle.plate.specs.Ended.{none}
use Rattle.plate.specs.Plate.{refusal, number}
use Rattle.plate.specs.declared.Refusal.{Refusal}
use Rattle.piece.specs.Piece.{piece_at}
use Rattle.piece.specs.declared.Piece.{Piece}
use Rattle.piece.proofs.Laws.{told, cut_before, piece_before}
use Rattle.piece.proofs.Numbers.{PieceFault, OfPiece, piece_numbers}
use Rattle.order.specs.Order.{started}
use Rattle.order.specs.declared.Progress.{Progress}
use Rattle.order.specs.declared.Step.{Step}
use Rattle.order.specs.declared.Step.TheVariants as step
use Rattle.plate.specs.declared.Fault.TheVariants as fault
use Rattle.order.proofs.Laws.{step_next}
use Rattle.order.proofs.Numbers.{StandsAt, step_stands}
use Rattle.stream.specs.Stream.{Packets, runs_out, closed, types_after, on_piece, packets_from, packets, on_step, type_for, step_at, judge_packets, check_of}
use Rattle.stream.proofs.Laws.{turn, judged, onward}

-- 18 is no packet's own fault
not_piece : {X : Type 0} (r : Refusal) → number r ≡ 18 → PieceFault r → X
not_piece r n (inl h) = absurd (omega (arith, h.1))
not_piece r n (inr (inl h)) = absurd (omega (arith, h.1))
not_piece r n (inr (inr (inl h))) = absurd (omega (arith, h.1))
not_piece r n (inr (inr (inr (inl h)))) = absurd (omega (arith, h.1))
not_piece r n (inr (inr (inr (inr h)))) = absurd (omega (arith, h.0))

module _ (s t : List ℕ) where
  abbrev out : Refusal
  out = refusal fault.StreamEnd (length s)

  -- what s with t behind it comes to is what it comes to from there on
  record Comes (whole : Result ℕ Refusal) : Type 0 where
    first : Bool
    types : List ℕ
    progress : Progress
    fuel : ℕ
    enough : zero < fuel
    same : whole ≡ judged (length (s ++ t)) progress (packets_from (s ++ t) fuel first types (length s))

  abbrev Rest : ℕ → Type 0
  Rest f = (g : ℕ) (first : Bool) (types : List ℕ) (at : ℕ) (p : Progress) → at ≤ length s → length s - at < f → length s - at < g → judged (length s) p (packets_from s f first types at) ≡ Err out
      → Comes (judged (length (s ++ t)) p (packets_from (s ++ t) g first types at))

  module _ (f : ℕ) (rest : Rest f) (g : ℕ) (first : Bool) (types : List ℕ) (at : ℕ) (p : Progress) (h : length s - at < suc f) (k : length s - at < g) where
    abbrev behind : Piece → Packets
    behind x = pick (eqb x.packet_type 0xFB) (none closed) (packets_from s f false (types_after s at x types) (at + x.len))

    on_step_lem : at < length s → (x : Piece) → piece_at s at first ≡ Ok x → (a : Result Step Refusal) → step_at (length s) p (record { at = at; piece = x; types = types_after s at x types }) ≡ a
        → on_step (λ q. judged (length s) q (behind x)) a ≡ Err out → Comes (judged (length (s ++ t)) p (packets_from (s ++ t) g first types at))
    on_step_lem l x w (Err q) i e =
        let z : q ≡ out = cc in
        let a = subst (StandsAt at) i (step_stands p x at (type_for (types_after s at x types) x.track) (ltb (at + x.len) (length s))) in
        absurd (omega (arith, a, ap (λ (r : Refusal). r.place) z))
    on_step_lem l x w (Ok (step.Ended n)) i e = absurd (let z : ◌≡◌ {A = ℕ} 0 1 = cc in omega arith)
    on_step_lem l x w (Ok (step.Next q)) i e =
        let n = step_next p x at (type_for (types_after s at x types) x.track) (ltb (at + x.len) (length s)) q i in
        let b = told s at first x w in
        let c = rest (g - 1) false (types_after s at x types) (at + x.len) q b.cut.within (omega (arith, b.cut.least, b.cut.within)) (omega (arith, b.cut.least, b.cut.within)) (rw n.0 at e) in
        let o = onward s (s ++ t) g first types at p x q (omega arith) (omega (arith, length-append s t)) (piece_before s t at first x w) (cut_before s t at x.len b.cut.within) i in
        record { first = c.first; types = c.types; progress = c.progress; fuel = c.fuel; enough = c.enough; same = o ∙ c.same }

    on_piece_lem : at < length s → (a : Result Piece Refusal) → piece_at s at first ≡ a → judged (length s) p (on_piece s at types (λ now_types next. packets_from s f false now_types next) a) ≡ Err out
        → Comes (judged (length (s ++ t)) p (packets_from (s ++ t) g first types at))
    unfolding judge_packets
    on_piece_lem l (Err q) w e = let z : q ≡ out = cc in not_piece q (ap (λ (r : Refusal). (number r)) z) (subst OfPiece w (piece_numbers s at first))
    on_piece_lem l (Ok x) w e = on_step_lem l x w (step_at (length s) p (record { at = at; piece = x; types = types_after s at x types })) refl e

    on_bytes_lem : at ≤ length s → (b : Bool) → ltb at (length s) ≡ b
        → judged (length s) p (pick b (on_piece s at types (λ now_types next. packets_from s f false now_types next) (piece_at s at first)) (none runs_out)) ≡ Err out
        → Comes (judged (length (s ++ t)) p (packets_from (s ++ t) g first types at))
    on_bytes_lem m true l e = on_piece_lem (ltb-true at (length s) l) (piece_at s at first) refl e
    on_bytes_lem m false l e =
        let o : at ≡ length s = omega (arith, ltb-false at (length s) l) in
        record { first = first; types = types; progress = p; fuel = g; enough = omega arith; same = ap (λ (j : ℕ). judged (length (s ++ t)) p (packets_from (s ++ t) g first types j)) o }

  comes : (f : ℕ) → Rest f
  unfolding packets_from
  comes zero g first types at p m h k e = absurd (omega arith)
  comes (suc f) g first types at p m h k e = on_bytes_lem f (comes f) g first types at p h k m (ltb at (length s)) refl e

  -- so a refusal there is the check's
  pub refused_behind : check_of s ≡ Err (refusal fault.StreamEnd (length s)) → zero < length t → (r : Refusal) → ((first : Bool) → piece_at (s ++ t) (length s) first ≡ Err r) → check_of (s ++ t) ≡ Err r
  unfolding check_of packets judge_packets
  refused_behind e l r refused =
      let c = comes (suc (length s)) (suc (length (s ++ t))) true (replicate 64 0) 0 started (omega arith) (omega arith) (omega (arith, length-append s t)) e in
      c.same ∙ ap (judged (length (s ++ t)) c.progress) (turn (s ++ t) c.fuel c.first c.types (length s) c.enough (omega (arith, length-append s t))) ∙ rw (refused c.first)
