-- A turn over digits, and the bound of a number by its digits.
use Prim.Native.Nat.{ℕ, suc, ◌+◌, ◌-◌, ◌*◌, ◌^◌, ◌<◌, ◌≤◌}
use mathlib.Core.Path.{◌≡◌, refl, sym}
use mathlib.Core.Logic.{◌⊎◌, inl, inr}
use Rattle.plate.proofs.Tests.{no_choice}
use mathlib.Core.Bool.{Bool, true, false}
use mathlib.Core.List.{List, [], ◌∷◌}
use native.Mathlib.Omega.{arith}
use native.Mathlib.Nat.{pow-succ', pow-le-pow_right, zero-add, mul-le-mul}
use native.Mathlib.Numerals.{add-one}
use borrow.Author.Tests.{lt-ltb, le-ltb, lt-leb, le-leb, leb-true}
use lib.ListN.{length, get_or, take, drop, drop_of_length-le}
use lib.Seq.{drop-cons}
use lib.Dec.{ltb, leb}
use Rattle.std.specs.Prelude.{Option, Some, None}
use Rattle.std.specs.Bool.{then_some}
use Rattle.std.specs.Char.{is_ascii_digit}
use Rattle.mpeg_scan.proofs.Laws.{in_range_is}
use Rattle.plate.specs.Choice.{pick, within}
use Rattle.mpeg_decimal.specs.Decimal.{digits, numeral_of, whole_of, fraction_of, times, plus, point_in, rate_of}

pub malformed_not : {X : Type 0} {n : ℕ} → None ≡ Some n → X
malformed_not e = absurd (let z : ◌≡◌ {A = ℕ} 0 1 = cc in omega arith)

-- a digit by the library's test
pub digit_is : (b : ℕ) → is_ascii_digit b ≡ within 0x30 0x39 b
digit_is b = in_range_is 0x30 0x39 b

-- one digit more
pub more : (i : ℕ) {n b : ℕ} → n < 10 ^ i → b < 10 → n * 10 + b < 10 ^ (i + 1)
more i h k = rw (add-one, pow-succ') (omega arith)

-- ten digits have room in 64 bits
pub room : (i : ℕ) {n : ℕ} → i ≤ 10 → n < 10 ^ i → n < 10000000000
room i h k = let p = pow-le-pow_right {n = 10} (omega arith) h in omega arith

module _ (v : List ℕ) (n i : ℕ) where
  pub digits_end : length v ≤ i → digits n (drop i v) ≡ Some n
  unfolding digits
  digits_end h = rw (drop_of_length-le v h)

  pub digits_turn : i < length v
      → digits n (drop i v) ≡ pick (within 0x30 0x39 (get_or v i 0)) (digits (n * 10 + (get_or v i 0 - 0x30)) (drop (i + 1) v)) None
  unfolding digits
  digits_turn h = rw (drop-cons v i 0 h, add-one)

pub numeral_none : (most : ℕ) (v : List ℕ) → (length v < 1) ⊎ (most < length v) → None ≡ numeral_of most v
unfolding numeral_of
numeral_none most v (inl h) = simp (le-ltb 0 (length v) (omega arith))
numeral_none most v (inr h) = simp (lt-leb (length v) most h) (sym (no_choice (ltb 0 (length v)) None))

pub numeral_start : (most : ℕ) (v : List ℕ) → 0 < length v → length v ≤ most → numeral_of most v ≡ digits 0 v
unfolding numeral_of
numeral_start most v h k = simp (lt-ltb _ _ h, le-leb _ _ k)

digits_lt : (v : List ℕ) (n k m : ℕ) → n < 10 ^ k → digits n v ≡ Some m → m < 10 ^ (k + length v)
unfolding digits
digits_lt [] n k m h e = let z : n ≡ m = cc in let f : k + 0 ≡ k = omega arith in rw f (omega arith)
digits_lt (b ∷ v) n k m h e = go (leb 0x30 b) (leb b 0x39) refl (digits_lt v (n * 10 + (b - 0x30)) (k + 1) m) e
  where
    go : (x y : Bool) → leb b 0x39 ≡ y → (n * 10 + (b - 0x30) < 10 ^ (k + 1) → digits (n * 10 + (b - 0x30)) v ≡ Some m → m < 10 ^ (k + 1 + length v))
        → pick (pick x y false) (digits (n * 10 + (b - 0x30)) v) None ≡ Some m → m < 10 ^ (k + suc (length v))
    go true true q r w =
        let f : k + suc (length v) ≡ k + 1 + length v = omega arith in
        let u = leb-true b 0x39 q in
        rw f (r (more k h (omega arith)) w)
    go true false q r w = malformed_not w
    go false y q r w = malformed_not w

pub numeral_lt : (most : ℕ) (v : List ℕ) (m : ℕ) → numeral_of most v ≡ Some m → m < 10 ^ most
unfolding numeral_of
numeral_lt most v m = go (ltb 0 (length v)) (leb (length v) most) refl
  where
    go : (x y : Bool) → leb (length v) most ≡ y → pick x (pick y (digits 0 v) None) None ≡ Some m → m < 10 ^ most
    go true true q w = let l = leb-true (length v) most q in let p = pow-le-pow_right {n = 10} (omega arith) l in omega (arith, rw zero-add at (digits_lt v 0 0 m (omega arith) w))
    go true false q w = malformed_not w
    go false y q w = malformed_not w

pub numeral_most : (most : ℕ) (v : List ℕ) (m : ℕ) → numeral_of most v ≡ Some m → length v ≤ most
unfolding numeral_of
numeral_most most v m = go (ltb 0 (length v)) (leb (length v) most) refl
  where
    go : (x y : Bool) → leb (length v) most ≡ y → pick x (pick y (digits 0 v) None) None ≡ Some m → length v ≤ most
    go true true q w = leb-true (length v) most q
    go true false q w = malformed_not w
    go false y q w = malformed_not w

pub fraction_empty : (v : List ℕ) → length v ≡ 0 → Some 0 ≡ fraction_of v
unfolding fraction_of
fraction_empty [] h = refl
fraction_empty (x ∷ v) h = absurd (omega arith)

-- so many of at most a million, and at most a million of them
pub scaled : (k : ℕ) {n w : ℕ} → n < 1000000 → w ≡ 10 ^ (6 - k) → n * w < 1000000000000
scaled k {n} h e =
    let p = pow-le-pow_right {n = 10} (omega arith) {i = 6 - k} {j = 6} (omega arith) in
    let w : 10 ^ (6 - k) ≤ 1000000 = omega arith in
    let a : n ≤ 999999 = omega arith in
    rw e (let m = mul-le-mul a w in omega arith)

-- the library's choice, at a limit
pub some_is : (b : Bool) (n : ℕ) → then_some b n ≡ pick b (Some n) None
some_is true n = refl
some_is false n = refl

pub fraction_lt : (v : List ℕ) (m : ℕ) → fraction_of v ≡ Some m → m < 1000000000000
unfolding fraction_of
fraction_lt [] m e = let z : 0 ≡ m = cc in omega arith
fraction_lt (x ∷ v) m e = go (numeral_of 6 v) refl e
  where
    go : (a : Option ℕ) → numeral_of 6 v ≡ a → times (10 ^ (6 - length v)) a ≡ Some m → m < 1000000000000
    go (Some n) q w = let z : n * 10 ^ (6 - length v) ≡ m = cc in let l = numeral_lt 6 v n q in let t = scaled (length v) {n = n} l refl in omega arith
    go None q w = malformed_not w

-- a whole number has nine digits at most, and a rate is at most 2^53 millionths
pub whole_lt : (v : List ℕ) (n : ℕ) → whole_of v ≡ Some n → n < 1000000000
unfolding whole_of
whole_lt v n e = numeral_lt 9 v n e

pub rate_most : (v : List ℕ) (n : ℕ) → rate_of v ≡ Some n → n ≤ 2 ^ 53
unfolding rate_of
rate_most v n = go (times 1000000 (numeral_of 10 (take (point_in v) v))) (fraction_of (drop (point_in v) v))
  where
    pick_most : (t : ℕ) (b : Bool) → leb t (2 ^ 53) ≡ b → pick b (Some t) None ≡ Some n → n ≤ 2 ^ 53
    pick_most t true q w = let z : t ≡ n = cc in let l = leb-true t (2 ^ 53) q in omega arith
    pick_most t false q w = malformed_not w

    go : (a b : Option ℕ) → plus a b ≡ Some n → n ≤ 2 ^ 53
    go (Some x) (Some y) w = pick_most (x + y) (leb (x + y) (2 ^ 53)) refl w
    go (Some x) None w = malformed_not w
    go None b w = malformed_not w
