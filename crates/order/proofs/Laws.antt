-- What a step tells of its piece: only EOS ends a stream, and after any other the progress is one packet further.
use Prim.Native.Nat.{ℕ, ◌+◌}
use mathlib.Core.Path.{◌≡◌, refl, sym, ◌∙◌}
use mathlib.Core.Bool.{Bool, true, false}
use native.Mathlib.Omega.{arith}
use lib.Dec.{eqb}
use Rattle.std.specs.Prelude.{Ok, Err}
use Rattle.plate.specs.Choice.{pick}
use Rattle.plate.specs.Plate.{refusal}
use Rattle.piece.specs.declared.Piece.{Piece}
use Rattle.order.specs.Order.{misplaced, overdue, unmapped, progress_after, ending, step_of}
use Rattle.order.specs.declared.Progress.{Progress}
use Rattle.order.specs.declared.Step.TheVariants.{Next, Ended}
use Rattle.plate.specs.declared.Fault.TheVariants as fault

module _ (p : Progress) (x : Piece) (at listed : ℕ) (more : Bool) where
  pub step_next : (q : Progress) → step_of p x at listed more ≡ Ok (Next q) → (eqb x.packet_type 0xFB ≡ false) × (progress_after p x.packet_type ≡ q)
  unfolding step_of ending
  step_next q =
      go (misplaced p.eos_due p.flt x.packet_type) (overdue p.since_map x.packet_type) (unmapped x.packet_type x.media_type listed) (eqb x.packet_type 0xFB) more p.umf refl
    where
      go : (a b d f m u : Bool) → eqb x.packet_type 0xFB ≡ f
          → pick a (Err (refusal fault.LocatorPlace at))
          (pick b (Err (refusal fault.MapOverdue at))
          (pick d (Err (refusal fault.Unmapped at))
          (pick f (pick m (Err (refusal fault.StreamEnd at)) (pick u (Ok (Ended (p.count + 1))) (Err (refusal fault.NoUmf at)))) (Ok (Next (progress_after p x.packet_type)))))) ≡ Ok (Next q)
          → (eqb x.packet_type 0xFB ≡ false) × (progress_after p x.packet_type ≡ q)
      go true b d f m u r e = absurd (let z : ◌≡◌ {A = ℕ} 0 1 = cc in omega arith)
      go false true d f m u r e = absurd (let z : ◌≡◌ {A = ℕ} 0 1 = cc in omega arith)
      go false false true f m u r e = absurd (let z : ◌≡◌ {A = ℕ} 0 1 = cc in omega arith)
      go false false false true true u r e = absurd (let z : ◌≡◌ {A = ℕ} 0 1 = cc in omega arith)
      go false false false true false true r e = absurd (let z : ◌≡◌ {A = ℕ} 0 1 = cc in omega arith)
      go false false false true false false r e = absurd (let z : ◌≡◌ {A = ℕ} 0 1 = cc in omega arith)
      go false false false false m u r e = (r, cc)

  -- and whether bytes follow is nothing to it
  pub step_next_any : (q : Progress) → step_of p x at listed more ≡ Ok (Next q) → (other : Bool) → step_of p x at listed other ≡ Ok (Next q)
  unfolding step_of
  step_next_any q e other = sym (rw (step_next q e).0) ∙ e

  pub step_ended : (n : ℕ) → step_of p x at listed more ≡ Ok (Ended n) → eqb x.packet_type 0xFB ≡ true
  unfolding step_of
  step_ended n = go (misplaced p.eos_due p.flt x.packet_type) (overdue p.since_map x.packet_type) (unmapped x.packet_type x.media_type listed) (eqb x.packet_type 0xFB) refl
    where
      go : (a b d f : Bool) → eqb x.packet_type 0xFB ≡ f
          → pick a (Err (refusal fault.LocatorPlace at)) (pick b (Err (refusal fault.MapOverdue at)) (pick d (Err (refusal fault.Unmapped at)) (pick f (ending p at more) (Ok (Next (progress_after p x.packet_type)))))) ≡ Ok (Ended n)
          → eqb x.packet_type 0xFB ≡ true
      go true b d f r e = absurd (let z : ◌≡◌ {A = ℕ} 0 1 = cc in omega arith)
      go false true d f r e = absurd (let z : ◌≡◌ {A = ℕ} 0 1 = cc in omega arith)
      go false false true f r e = absurd (let z : ◌≡◌ {A = ℕ} 0 1 = cc in omega arith)
      go false false false true r e = r
      go false false false false r e = absurd (let z : ◌≡◌ {A = ℕ} 0 1 = cc in omega arith)
