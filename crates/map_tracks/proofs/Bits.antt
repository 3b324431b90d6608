-- The bits of a number once a bit is set: that one is there, and every other is as it was.
use Prim.Native.Nat.{ℕ, max, ◌+◌, ◌-◌, ◌*◌, ◌/◌, ◌%◌, ◌^◌, ◌≤◌, ◌<◌}
use native.Mathlib.Nat.{max-zero, max-eq_right, max-le, mul-add-mod_self_right, mul-mod_left, mod-eq_of_lt, div-eq_of_lt, div_self}
use native.Mathlib.Omega.{arith}
use mathlib.Core.Path.{◌≡◌, refl, ap, ◌∙◌}
use mathlib.Core.Bool.{Bool, true, false}
use lib.Bits.{bit_or, or_step, or_shr}
use lib.Pow.{pow_pos, pow-lt, pow-add, shl-shr}
use lib.Dec.{eqb, ltb}
use borrow.Author.Tests.{eqb-true, eqb-false, ltb-true, ltb-false}
use Rattle.plate.specs.Choice.{pick}

-- the last bit of an `or`
or_last : (a b : ℕ) → bit_or a b % 2 ≡ max (a % 2) (b % 2)
or_last a b = ap (λ (x : ℕ). x % 2) (or_step a b) ∙ mul-add-mod_self_right (bit_or (a / 2) (b / 2)) 2 (max (a % 2) (b % 2)) ∙ mod-eq_of_lt bound
  where
    under : (x : ℕ) → x % 2 ≤ 1
    under x = omega arith

    bound : max (a % 2) (b % 2) < 2
    bound = let h : max (a % 2) (b % 2) ≤ 1 = max-le (under a) (under b) in omega arith

-- a power of two has one bit
power_bit : (j k : ℕ) → 2 ^ k / 2 ^ j % 2 ≡ pick (eqb j k) 1 0
power_bit j k = go (eqb j k) refl (ltb j k) refl
  where
    above : j < k → 2 ^ k / 2 ^ j % 2 ≡ 0
    above h =
        let e : k ≡ (k - j - 1) + 1 + j = omega arith in
        let two : 2 ^ ((k - j - 1) + 1) ≡ 2 ^ (k - j - 1) * 2 = pow-add 2 (k - j - 1) 1 in
        ap (λ (x : ℕ). 2 ^ x / 2 ^ j % 2) e ∙ ap (λ (x : ℕ). x / 2 ^ j % 2) (pow-add 2 ((k - j - 1) + 1) j) ∙ ap (λ (x : ℕ). x % 2) (shl-shr (2 ^ ((k - j - 1) + 1)) j ∙ two)
        ∙ mul-mod_left (2 ^ (k - j - 1)) 2

    go : (x : Bool) → eqb j k ≡ x → (y : Bool) → ltb j k ≡ y → 2 ^ k / 2 ^ j % 2 ≡ pick x 1 0
    go true p y q = let e = eqb-true j k p in ap (λ (x : ℕ). 2 ^ k / 2 ^ x % 2) e ∙ ap (λ (x : ℕ). x % 2) (div_self (pow_pos k))
    go false p true q = above (ltb-true j k q)
    go false p false q =
        let n = eqb-false j k p in
        let h = ltb-false j k q in
        let l : k < j = omega arith in
        ap (λ (x : ℕ). x % 2) (div-eq_of_lt (pow-lt l))

pub bit_set : (n j k : ℕ) → bit_or n (2 ^ k) / 2 ^ j % 2 ≡ pick (eqb j k) 1 (n / 2 ^ j % 2)
bit_set n j k =
    ap (λ (x : ℕ). x % 2) (or_shr n (2 ^ k) j) ∙ or_last (n / 2 ^ j) (2 ^ k / 2 ^ j) ∙ ap (λ (x : ℕ). max (n / 2 ^ j % 2) x) (power_bit j k) ∙ go (eqb j k)
  where
    go : (t : Bool) → max (n / 2 ^ j % 2) (pick t 1 0) ≡ pick t 1 (n / 2 ^ j % 2)
    go true = max-eq_right (omega arith)
    go false = max-zero (n / 2 ^ j % 2)
