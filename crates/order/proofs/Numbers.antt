-- Which numbers the refusal of a step can have: 18 to 22; no bytes lack with them, and the place is the packet's own.
use Prim.Native.Nat.{ℕ}
use mathlib.Core.Path.{◌≡◌, refl}
use mathlib.Core.Bool.{Bool}
use native.Mathlib.Omega.{arith}
use lib.Dec.{eqb}
use Rattle.std.specs.Prelude.{Result, Ok, Err}
use Rattle.plate.proofs.Numbers.{either, Among}
use Rattle.piece.specs.declared.Piece.{Piece}
use Rattle.order.specs.Order.{misplaced, overdue, unmapped, ending, step_of}
use Rattle.plate.specs.declared.Refusal.{Refusal}
use Rattle.order.specs.declared.Progress.{Progress}
use Rattle.order.specs.declared.Step.{Step}
use Rattle.order.specs.declared.Step.TheVariants as step

abbrev pub OfStep : Result Step Refusal → Type 0
OfStep (Ok (step.Next p)) = Unit {0}
OfStep (Ok (step.Ended n)) = Unit {0}
OfStep (Err r) = Among 18 22 r

pub step_numbers : (p : Progress) (x : Piece) (at listed : ℕ) (more : Bool) → OfStep (step_of p x at listed more)
unfolding step_of ending
step_numbers p x at listed more =
    either OfStep (misplaced p.eos_due p.flt x.packet_type) (omega arith, omega arith, λ n. refl)
    (either OfStep (overdue p.since_map x.packet_type) (omega arith, omega arith, λ n. refl)
    (either OfStep (unmapped x.packet_type x.media_type listed) (omega arith, omega arith, λ n. refl)
    (either OfStep (eqb x.packet_type 0xFB)
    (either OfStep more (omega arith, omega arith, λ n. refl) (either OfStep p.umf tt (omega arith, omega arith, λ n. refl))) tt)))

abbrev pub StandsAt : ℕ → Result Step Refusal → Type 0
StandsAt at (Ok (step.Next p)) = Unit {0}
StandsAt at (Ok (step.Ended n)) = Unit {0}
StandsAt at (Err r) = r.place ≡ at

pub step_stands : (p : Progress) (x : Piece) (at listed : ℕ) (more : Bool) → StandsAt at (step_of p x at listed more)
unfolding step_of ending
step_stands p x at listed more =
    either (StandsAt at) (misplaced p.eos_due p.flt x.packet_type) refl
    (either (StandsAt at) (overdue p.since_map x.packet_type) refl
    (either (StandsAt at) (unmapped x.packet_type x.media_type listed) refl
    (either (StandsAt at) (eqb x.packet_type 0xFB) (either (StandsAt at) more refl (either (StandsAt at) p.umf tt refl)) tt)))
