-- The text rule by the last byte and those in front of it, and from a place on.
use Prim.Native.Nat.{ℕ, suc, ◌+◌, ◌<◌}
use mathlib.Core.Path.{◌≡◌, refl, ◌∙◌}
use mathlib.Core.Bool.{Bool, true, false}
use mathlib.Core.List.{List, [], ◌∷◌, ◌++◌}
use native.Mathlib.Omega.{arith}
use native.Mathlib.Numerals.{add-one}
use borrow.Author.Tests.{eq-eqb, ne_eqb, leb-true, leb-false, lt-ltb, le-ltb}
use lib.ListN.{length, get_or, drop, drop_of_length-le}
use lib.Seq.{drop-cons}
use lib.Dec.{ltb, leb, eqb}
use Rattle.std.specs.Prelude.{◌&&◌}
use Rattle.std.specs.List.{list_all}
use Rattle.plate.specs.Choice.{pick}
use Rattle.text.specs.Text.{text_ok}

pub text_empty : (v : List ℕ) → length v ≡ 0 → text_ok v ≡ false
unfolding text_ok
text_empty [] h = refl
text_empty (x ∷ v) h = absurd (omega arith)

-- a byte that may stand in front of the last
abbrev pub inner : ℕ → Bool
inner b = leb 1 b && leb b 0x7F

inner_is : (b : ℕ) (t : Bool) → pick (eqb b 0) false (pick (ltb b 0x80) t false) ≡ inner b && t
inner_is b t = go (leb 1 b) refl (leb b 0x7F) refl
  where
    go : (x : Bool) → leb 1 b ≡ x → (y : Bool) → leb b 0x7F ≡ y → pick (eqb b 0) false (pick (ltb b 0x80) t false) ≡ (x && y) && t
    go false e y f = simp (eq-eqb b 0 (let l = leb-false 1 b e in omega arith))
    go true e true f = let l = leb-true 1 b e in let m = leb-true b 0x7F f in simp (ne_eqb b 0 (λ z. omega arith), lt-ltb b 0x80 (omega arith))
    go true e false f = let l = leb-true 1 b e in let m = leb-false b 0x7F f in simp (ne_eqb b 0 (λ z. omega arith), le-ltb b 0x80 (omega arith))

-- one byte more in front
text_more : (x : ℕ) (front : List ℕ) (last : ℕ) → text_ok (x ∷ front ++ (last ∷ [])) ≡ inner x && text_ok (front ++ (last ∷ []))
unfolding text_ok
text_more x [] last = inner_is x _
text_more x (y ∷ front) last = inner_is x _

pub text_last : (front : List ℕ) (last : ℕ) → last ≡ 0 → text_ok (front ++ (last ∷ [])) ≡ list_all inner front
unfolding text_ok
text_last [] last h = eq-eqb last 0 h
text_last (x ∷ front) last h = text_more x front last ∙ rw (text_last front last h)

pub text_other : (front : List ℕ) (last : ℕ) → (last ≡ 0 → ⊥) → text_ok (front ++ (last ∷ [])) ≡ false
unfolding text_ok
text_other [] last h = ne_eqb last 0 h
text_other (x ∷ front) last h = text_more x front last ∙ rw (text_other front last h) (go (inner x))
  where
    go : (b : Bool) → b && false ≡ false
    go true = refl
    go false = refl

-- from a place on: the last byte, and one more before it
pub text_end : (v : List ℕ) (i : ℕ) → i + 1 ≡ length v → text_ok (drop i v) ≡ eqb (get_or v i 0) 0
unfolding text_ok
text_end v i h = rw (drop-cons v i 0 (omega arith), drop_of_length-le v {i = suc i} (omega arith))

pub text_turn : (v : List ℕ) (i : ℕ) → i + 1 < length v
    → text_ok (drop i v) ≡ pick (eqb (get_or v i 0) 0) false (pick (ltb (get_or v i 0) 0x80) (text_ok (drop (i + 1) v)) false)
unfolding text_ok
text_turn v i h = rw (drop-cons v i 0 (omega arith), add-one, drop-cons v (suc i) 0 (omega arith))
