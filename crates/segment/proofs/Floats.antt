-- Which bits are a number's: those whose exponent and digits are at most the infinity's.
use Prim.Native.Nat.{ℕ, ◌+◌, ◌*◌, ◌/◌, ◌%◌, ◌≤◌, ◌<◌}
use mathlib.Core.Path.{◌≡◌, refl}
use mathlib.Core.Bool.{Bool, true, false, not, ◌&&◌}
use native.Mathlib.Omega.{arith}
use lib.Dec.{eqb}
use lib.Ieee as Ieee
use lib.Ieee.{Float, binary64}
use borrow.Author.Tests.{eq-eqb, ne_eqb, eqb-true}
use Rattle.std.specs.Prelude.{Some, None}
use Rattle.plate.specs.Choice.{pick}
use Rattle.segment.specs.Segment.{number_of, in_range, level_of}

module _ (b : ℕ) where
  -- the magnitude is its exponent's field and its digits
  made : b % 0x8000000000000000 ≡ b % 0x8000000000000000 / 0x10000000000000 * 0x10000000000000 + b % 0x10000000000000
  made = omega arith

  pub is_number : b % 0x8000000000000000 ≤ 0x7FF0000000000000 → Ieee.nan_bits binary64 b ≡ false
  unfolding Ieee.nan_bits
  is_number h = go (eqb (b % 0x8000000000000000 / 0x10000000000000) 2047) refl
    where
      go : (a : Bool) → eqb (b % 0x8000000000000000 / 0x10000000000000) 2047 ≡ a → (a && not (eqb (b % 0x10000000000000) 0)) ≡ false
      go false e = refl
      go true e =
          let f = eqb-true (b % 0x8000000000000000 / 0x10000000000000) 2047 e in
          let z : b % 0x10000000000000 ≡ 0 = omega (arith, made) in
          rw (eq-eqb _ _ z)

  pub is_none : 0x7FF0000000000000 < b % 0x8000000000000000 → Ieee.nan_bits binary64 b ≡ true
  unfolding Ieee.nan_bits
  is_none h =
      let f : b % 0x8000000000000000 / 0x10000000000000 ≡ 2047 = omega (arith, made) in
      let z : b % 0x10000000000000 ≡ 0 → ⊥ = λ e. omega (arith, made) in
      rw (eq-eqb _ _ f, ne_eqb _ _ z)

-- a level by the float that it is
pub level_is : (b : ℕ) (x : Float) → number_of b ≡ Some x → in_range x ≡ level_of b
unfolding number_of level_of
level_is b x = go (Ieee.nan_bits binary64 b)
  where
    go : (a : Bool) → pick a None (Some (Ieee.of_bits binary64 b)) ≡ Some x → in_range x ≡ pick a None (in_range (Ieee.of_bits binary64 b))
    go true e = absurd (let z : ◌≡◌ {A = ℕ} 0 1 = cc in omega arith)
    go false e = let f : Ieee.of_bits binary64 b ≡ x = cc in rw f

pub level_none : (b : ℕ) → number_of b ≡ None → None ≡ level_of b
unfolding number_of level_of
level_none b = go (Ieee.nan_bits binary64 b)
  where
    go : (a : Bool) → pick a None (Some (Ieee.of_bits binary64 b)) ≡ None → None ≡ pick a None (in_range (Ieee.of_bits binary64 b))
    go true e = refl
    go false e = absurd (let z : ◌≡◌ {A = ℕ} 0 1 = cc in omega arith)
