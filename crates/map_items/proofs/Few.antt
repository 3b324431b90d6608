-- Different numbers from a first one on, under a bound: there are no more of them than numbers.
use Prim.Native.Nat.{ℕ, zero, suc, ◌+◌, ◌≤◌, ◌<◌}
use mathlib.Core.Path.{◌≡◌, refl}
use mathlib.Core.Bool.{Bool, true, false}
use mathlib.Core.List.{List, [], ◌∷◌}
use native.Mathlib.Omega.{arith}
use lib.ListN.{length}
use lib.Dec.{eqb, ltb}
use borrow.Author.Tests.{eqb-true, eqb-false, ne_eqb, ltb-true, ltb-false}
use Rattle.plate.specs.Choice.{pick}
use Rattle.map_items.specs.Judge.{has}

-- numbers that are different from each other and from those of a list
abbrev pub Fresh : List ℕ → List ℕ → Type 0
Fresh ids [] = Unit {0}
Fresh ids (x ∷ xs) = (has x ids ≡ false) × Fresh (x ∷ ids) xs

abbrev pub Between : ℕ → ℕ → List ℕ → Type 0
Between first n [] = Unit {0}
Between first n (x ∷ xs) = (first ≤ x) × (x < first + n) × Between first n xs

-- of n numbers from a first one on, those that a list lacks
abbrev free : ℕ → ℕ → List ℕ → ℕ
free first zero ids = 0
free first (suc n) ids = pick (has (first + n) ids) 0 1 + free first n ids

free_most : (first n : ℕ) (ids : List ℕ) → free first n ids ≤ n
free_most first zero ids = omega arith
free_most first (suc n) ids = go (has (first + n) ids) (free_most first n ids)
  where
    go : (b : Bool) → free first n ids ≤ n → pick b 0 1 + free first n ids ≤ suc n
    go true h = omega arith
    go false h = omega arith

-- a number past the bound takes none of them, and one of them takes itself
free_past : (first n x : ℕ) (ids : List ℕ) → first + n ≤ x → free first n (x ∷ ids) ≡ free first n ids
unfolding has
free_past first zero x ids h = refl
free_past first (suc n) x ids h = rw (ne_eqb (first + n) x (λ e. omega arith), free_past first n x ids (omega arith))

pub under : (m x : ℕ) → x ≤ m → (m ≡ x → ⊥) → x < m
under m x h d = go (ltb x m) refl
  where
    go : (b : Bool) → ltb x m ≡ b → x < m
    go true q = ltb-true _ _ q
    go false q = absurd (d (omega (arith, ltb-false x m q, h)))

free_less : (first n x : ℕ) (ids : List ℕ) → first ≤ x → x < first + n → has x ids ≡ false → suc (free first n (x ∷ ids)) ≡ free first n ids
unfolding has
free_less first zero x ids h k e = absurd (omega arith)
free_less first (suc n) x ids h k e = go (eqb (first + n) x) refl (λ j. free_less first n x ids h j e)
  where
    go : (b : Bool) → eqb (first + n) x ≡ b → (x < first + n → suc (free first n (x ∷ ids)) ≡ free first n ids)
        → suc (pick (pick b true (has (first + n) ids)) 0 1 + free first n (x ∷ ids)) ≡ pick (has (first + n) ids) 0 1 + free first n ids
    go true q ih =
        let f : first + n ≡ x = eqb-true _ _ q in
        rw (f, e) (omega (arith, free_past first n x ids (omega arith)))
    go false q ih =
        let j = under (first + n) x (omega arith) (eqb-false _ _ q) in
        omega (arith, ih j)

few_free : (first n : ℕ) (ids xs : List ℕ) → Fresh ids xs → Between first n xs → length xs ≤ free first n ids
few_free first n ids [] f b = omega arith
few_free first n ids (x ∷ xs) f b =
    let e = free_less first n x ids b.0 b.1 f.0 in
    let h = few_free first n (x ∷ ids) xs f.1 b.2 in
    omega arith

pub few : (first n : ℕ) (xs : List ℕ) → Fresh [] xs → Between first n xs → length xs ≤ n
few first n xs f b = let h = few_free first n [] xs f b in omega (arith, free_most first n [])
