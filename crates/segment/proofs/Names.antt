-- A text by the first byte that is none.
use Prim.Native.Nat.{ℕ, zero, suc, ◌+◌, ◌-◌, ◌<◌, ◌≤◌}
use native.Mathlib.Nat.{add-zero, zero-add}
use mathlib.Core.Bool.{Bool, true, false, not, cond, ◌||◌}
use lib.Dec.{eqb, ltb}
use Rattle.std.specs.Prelude.{Some, None}
use Rattle.std.specs.List.{position_or_len, position}
use Rattle.plate.specs.Choice.{pick}
use mathlib.Core.Path.{◌≡◌, refl, sym, ◌∙◌, ap}
use mathlib.Core.List.{List, [], ◌∷◌}
use native.Mathlib.Omega.{arith}
use lib.ListN.{length, get_or}
use borrow.Author.Tests.{eq-eqb, ne_eqb, le-ltb, eqb-true, eqb-false, ltb-true, ltb-false}
use Rattle.map_items.specs.declared.Part.{Part}
use Rattle.segment.specs.Segment.{name_from}
use Rattle.segment.proofs.NameStatements.{EndsAt, NameSays}

-- a byte that is no text ends the search
abbrev pub ends : ℕ → Bool
ends b = eqb b 0 || ltb 0x7F b

-- behind n bytes that were passed: what the first such byte says, at m
by_first : (q n : ℕ) (s : List ℕ) (m : ℕ) → m ≡ position_or_len ends s
    → (m < length s → pick (eqb (get_or s m 0) 0) (Some (record { at = q; len = n + m })) None ≡ name_from q n s) × (length s ≤ m → None ≡ name_from q n s)
unfolding name_from
by_first q n [] m e = (λ h. absurd (omega arith), λ h. refl)
by_first q n (b ∷ s) m e = go (eqb b 0) refl (ltb 0x7F b) refl e (by_first q (n + 1) s (position_or_len ends s) refl)
  where
    go : (x : Bool) → eqb b 0 ≡ x → (y : Bool) → ltb 0x7F b ≡ y → m ≡ cond (not (x || y)) (1 + position_or_len ends s) 0
        → (position_or_len ends s < length s → pick (eqb (get_or s (position_or_len ends s) 0) 0) (Some (record { at = q; len = n + 1 + position_or_len ends s })) None ≡ name_from q (n + 1) s)
        × (length s ≤ position_or_len ends s → None ≡ name_from q (n + 1) s)
        → (m < suc (length s) → pick (eqb (get_or (b ∷ s) m 0) 0) (Some (record { at = q; len = n + m })) None ≡ pick x (Some (record { at = q; len = n })) (pick y None (name_from q (n + 1) s)))
        × (suc (length s) ≤ m → None ≡ pick x (Some (record { at = q; len = n })) (pick y None (name_from q (n + 1) s)))
    go true u y v f r = (λ h. rw (f, u, add-zero n), λ h. absurd (omega arith))
    go false u true v f r = (λ h. rw (f, u), λ h. absurd (omega arith))
    go false u false v f r =
        let z : m ≡ suc (position_or_len ends s) = omega arith in
        let k : n + suc (position_or_len ends s) ≡ n + 1 + position_or_len ends s = omega arith in
        (λ h. rw (z, k) (r.0 (omega arith)), λ h. r.1 (omega arith))

module _ (q : ℕ) (s : List ℕ) where
  pub nowhere : position ends s ≡ None → None ≡ name_from q 0 s
  nowhere = go (ltb (position_or_len ends s) (length s)) refl
    where
      go : (x : Bool) → ltb (position_or_len ends s) (length s) ≡ x → cond x (Some (position_or_len ends s)) None ≡ None → None ≡ name_from q 0 s
      go true e f = absurd (let z : ◌≡◌ {A = ℕ} 0 1 = cc in omega arith)
      go false e f = (by_first q 0 s (position_or_len ends s) refl).1 (ltb-false (position_or_len ends s) (length s) e)

  first : (m : ℕ) → position ends s ≡ Some m → pick (eqb (get_or s m 0) 0) (Some (record { at = q; len = m })) None ≡ name_from q 0 s
  first m = go (ltb (position_or_len ends s) (length s)) refl
    where
      go : (x : Bool) → ltb (position_or_len ends s) (length s) ≡ x → cond x (Some (position_or_len ends s)) None ≡ Some m → pick (eqb (get_or s m 0) 0) (Some (record { at = q; len = m })) None ≡ name_from q 0 s
      go true e f =
          let z : position_or_len ends s ≡ m = cc in
          rw (zero-add m) at ((by_first q 0 s m (sym z)).0 (omega (arith, ltb-true (position_or_len ends s) (length s) e)))
      go false e f = absurd (let z : ◌≡◌ {A = ℕ} 0 1 = cc in omega arith)

  module _ (m : ℕ) (e : position ends s ≡ Some m) where
    pub is_text : get_or s m 0 ≡ 0 → Some (record { at = q; len = m }) ≡ name_from q 0 s
    is_text z = rw (eq-eqb (get_or s m 0) 0 z) at (first m e)

    pub no_text : (get_or s m 0 ≡ 0 → ⊥) → None ≡ name_from q 0 s
    no_text z = rw (ne_eqb (get_or s m 0) 0 z) at (first m e)

-- behind n bytes that were passed: what is shown, and that what is there is shown
from_shown : (q n : ℕ) (s : List ℕ) (a m : ℕ) → name_from q n s ≡ Some (record { at = a; len = m }) → (a ≡ q) × (n ≤ m) × EndsAt s (m - n)
unfolding name_from
from_shown q n [] a m e = absurd (let z : ◌≡◌ {A = ℕ} 0 1 = cc in omega arith)
from_shown q n (b ∷ s) a m e = go (eqb b 0) refl (ltb 0x7F b) refl e (from_shown q (n + 1) s a m)
  where
    go : (x : Bool) → eqb b 0 ≡ x → (y : Bool) → ltb 0x7F b ≡ y → pick x (Some (record { at = q; len = n })) (pick y None (name_from q (n + 1) s)) ≡ Some (record { at = a; len = m })
        → (name_from q (n + 1) s ≡ Some (record { at = a; len = m }) → (a ≡ q) × (n + 1 ≤ m) × EndsAt s (m - (n + 1)))
        → (a ≡ q) × (n ≤ m) × EndsAt (b ∷ s) (m - n)
    go true u y v e r =
        let y : ◌≡◌ {A = Part} (record { at = q; len = n }) (record { at = a; len = m }) = cc in
        let f = ap (λ (v : Part). v.at) y in
        let g = ap (λ (v : Part). v.len) y in
        let z : m - n ≡ 0 = omega arith in
        (sym f, omega arith, rw z (record { inside = omega arith; zero = eqb-true b 0 u; text = λ i h. absurd (omega arith) }))
    go false u true v e r = absurd (let z : ◌≡◌ {A = ℕ} 0 1 = cc in omega arith)
    go false u false v e r =
        let t = r e in
        let z : m - n ≡ suc (m - (n + 1)) = omega (arith, t.1) in
        (t.0, omega (arith, t.1), rw z (record { inside = omega (arith, t.2.inside); zero = t.2.zero; text = each t.2 }))
      where
        each : EndsAt s (m - (n + 1)) → (i : ℕ) → i < suc (m - (n + 1)) → (1 ≤ get_or (b ∷ s) i 0) × (get_or (b ∷ s) i 0 ≤ 0x7F)
        each t zero h = (omega (arith, eqb-false b 0 u), ltb-false 0x7F b v)
        each t (suc i) h = t.text i (omega arith)

from_there : (q n : ℕ) (s : List ℕ) (m : ℕ) → EndsAt s m → name_from q n s ≡ Some (record { at = q; len = n + m })
unfolding name_from
from_there q n [] m t = absurd (omega (arith, t.inside))
from_there q n (b ∷ s) zero t = rw (eq-eqb b 0 t.zero, add-zero n)
from_there q n (b ∷ s) (suc m) t =
    let c = t.text 0 (omega arith) in
    let z : n + 1 + m ≡ n + suc m = omega arith in
    rw (ne_eqb b 0 (λ e. omega (arith, c.0)), le-ltb 0x7F b c.1) (from_there q (n + 1) s m (record { inside = omega (arith, t.inside); zero = t.zero; text = λ i h. t.text (suc i) (omega arith) }) ∙ rw z)

pub name_says : (q : ℕ) (s : List ℕ) → NameSays q s
name_says q s =
    record {
      shown = λ a m e. let t = from_shown q 0 s a m e in let z : m - 0 ≡ m = omega arith in (t.0, rw z at t.2);
      there = λ m t. from_there q 0 s m t ∙ rw (zero-add m);
      absent = λ e m t. absurd (let f = sym e ∙ from_there q 0 s m t in let z : ◌≡◌ {A = ℕ} 0 1 = cc in omega arith);
    }
