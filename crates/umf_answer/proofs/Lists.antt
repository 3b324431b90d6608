-- A list searched for a number.
use Prim.Native.Nat.{ℕ}
use mathlib.Core.Path.{◌≡◌, refl, sym}
use mathlib.Core.Bool.{Bool, true, false, ◌||◌}
use mathlib.Core.List.{List, [], ◌∷◌}
use lib.Dec.{eqb}
use borrow.Author.Tests.{eq-eqb, ne_eqb, eqb-true, eqb-false}
use Rattle.std.specs.List.{list_any}
use Rattle.plate.specs.Choice.{pick}
use Rattle.map_items.specs.Judge.{has}

turned : (a b : ℕ) → eqb a b ≡ eqb b a
turned a b = go (eqb b a) refl
  where
    go : (x : Bool) → eqb b a ≡ x → eqb a b ≡ x
    go true e = eq-eqb a b (sym (eqb-true b a e))
    go false e = ne_eqb a b (λ f. eqb-false b a e (sym f))

-- one that is equal to it is in the list
pub any_has : (n : ℕ) (l : List ℕ) → list_any (λ m. eqb m n) l ≡ has n l
unfolding has
any_has n [] = refl
any_has n (m ∷ l) = rw (turned m n) (go (eqb n m) (any_has n l))
  where
    go : (x : Bool) → list_any (λ k. eqb k n) l ≡ has n l → (x || list_any (λ k. eqb k n) l) ≡ pick x true (has n l)
    go true e = refl
    go false e = e
