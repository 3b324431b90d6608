-- Which refusals there can be: their numbers, and that bytes lack with 5 alone.
use Prim.Native.Nat.{ℕ, ◌≤◌, ◌<◌}
use mathlib.Core.Path.{◌≡◌}
use mathlib.Core.Bool.{Bool, true, false}
use native.Mathlib.Omega.{arith}
use Rattle.plate.specs.Choice.{pick}
use Rattle.plate.specs.Plate.{number}
use Rattle.plate.specs.declared.Refusal.{Refusal}

-- what holds of both sides of a choice holds of it
pub either : {A : Type 0} (P : A → Type 0) (b : Bool) {v w : A} → P v → P w → P (pick b v w)
either P true h k = h
either P false h k = k

-- a refusal whose number is from lo to hi, and with which no bytes lack unless it is 5
abbrev pub Among : ℕ → ℕ → Refusal → Type 0
Among lo hi r = (lo ≤ number r) × (number r ≤ hi) × ((number r ≡ 5 → ⊥) → r.lacking ≡ 0)

pub wider : {lo hi : ℕ} (from to : ℕ) (r : Refusal) → from ≤ lo → hi ≤ to → Among lo hi r → Among from to r
wider from to r l m h = (omega (arith, h.0), omega (arith, h.1), h.2)

-- a refusal with a number other than 5 is none with 5
pub other : {X : Type 0} {lo hi : ℕ} (r : Refusal) → Among lo hi r → 5 < lo → number r ≡ 5 → X
other r h l five = absurd (omega (arith, h.0))
