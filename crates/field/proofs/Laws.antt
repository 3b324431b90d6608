-- Laws of field numbers: a packet carries no field whose half is another, and a marked type gives back its type and its mark.
use Prim.Native.Nat.{ℕ, ◌+◌, ◌/◌, ◌%◌, ◌<◌}
use mathlib.Core.Path.{◌≡◌, refl}
use mathlib.Core.Bool.{Bool, true, false}
use native.Mathlib.Omega.{arith}
use lib.Dec.{eqb, leb}
use borrow.Author.Tests.{eq-eqb, ne_eqb, eqb-true, eqb-false, le-leb, lt-leb}
use Rattle.plate.specs.Choice.{pick}
use Rattle.field.specs.Field.{type_with, has_mark, type_alone, is_even, carries_two, is_field}

-- two fields are carried with an even number alone
pub two_even : (byte number : ℕ) → carries_two byte number ≡ true → is_even number ≡ true
unfolding carries_two
two_even byte number = go (has_mark byte)
  where
    go : (m : Bool) → pick m (is_even number) false ≡ true → is_even number ≡ true
    go true e = e
    go false e = absurd (let z : ◌≡◌ {A = ℕ} 0 1 = cc in omega arith)

-- so whatever is carried, half of it is half of the number
pub other_half : (two : Bool) (number field : ℕ) → (two ≡ true → is_even number ≡ true) → (number / 2 ≡ field / 2 → ⊥) → is_field two number field ≡ false
unfolding is_field is_even
other_half two number field even h = rw (ne_eqb number field (λ z. h (rw z))) (go two even)
  where
    go : (b : Bool) → (b ≡ true → eqb (number % 2) 0 ≡ true) → pick b (eqb (number + 1) field) false ≡ false
    go false e = refl
    go true e = ne_eqb (number + 1) field (λ z. h (omega (arith, z, eqb-true (number % 2) 0 (e refl))))

-- of two numbers with one half, with the mark the even one carries both, and the odd one itself; without it each itself
pub same_half : (byte number field : ℕ) → number / 2 ≡ field / 2 → is_field (carries_two byte number) number field ≡ pick (has_mark byte) (leb number field) (eqb number field)
unfolding is_field carries_two is_even
same_half byte number field h = go (has_mark byte) (eqb (number % 2) 0) refl (eqb number field) refl
  where
    go : (m e : Bool) → eqb (number % 2) 0 ≡ e → (q : Bool) → eqb number field ≡ q
        → pick q true (pick (pick m e false) (eqb (number + 1) field) false) ≡ pick m (leb number field) q
    go true e p true r = rw (le-leb number field (omega (arith, eqb-true number field r)))
    go true true p false r =
        let z = eqb-true (number % 2) 0 p in let n = eqb-false number field r in
        rw (eq-eqb (number + 1) field (omega (arith, z, n, h)), le-leb number field (omega (arith, z, n, h)))
    go true false p false r = let z = eqb-false (number % 2) 0 p in let n = eqb-false number field r in rw (lt-leb number field (omega (arith, z, n, h)))
    go false e p true r = refl
    go false e p false r = refl

pub own_half : (number field : ℕ) → is_even number ≡ true → number / 2 ≡ field / 2 → is_field true number field ≡ true
unfolding is_field is_even
own_half number field e h = go (eqb number field) refl
  where
    go : (b : Bool) → eqb number field ≡ b → pick b true (eqb (number + 1) field) ≡ true
    go true q = refl
    go false q = let n = eqb-false number field q in eq-eqb (number + 1) field (omega (arith, n, h, eqb-true (number % 2) 0 e))

-- of a type under 64: with the mark or without, both come back
pub mark_back : (marked : Bool) (type : ℕ) → type < 64 → has_mark (type_with marked type) ≡ marked
unfolding has_mark type_with
mark_back true type h = le-leb 64 (type + 64) (omega arith)
mark_back false type h = lt-leb 64 type h

pub type_back : (marked : Bool) (type : ℕ) → type < 64 → type_alone (type_with marked type) ≡ type
unfolding type_alone type_with
type_back true type h = omega arith
type_back false type h = omega arith
