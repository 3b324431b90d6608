-- Whether items are accepted does not depend on the place where they stand.
use Prim.Native.Nat.{ℕ, ◌+◌}
use mathlib.Core.Path.{◌≡◌, refl}
use mathlib.Core.Bool.{Bool, true, false}
use mathlib.Core.List.{List, [], ◌∷◌}
use native.Mathlib.Omega.{arith}
use lib.ListN.{length}
use Rattle.std.specs.Prelude.{Option, Some, None, Result, Ok, Err, ⊤}
use Rattle.plate.specs.Choice.{pick}
use Rattle.map_items.specs.Items.{Item, section_of, items_size, items_bytes}
use Rattle.map_items.specs.Judge.{bad, or_bad, and_then, form_of, is_known, fault_of, counts_as, has, on_item, judge_items, ending, verdict_of}
use Rattle.map_items.specs.declared.Section.{Section}
use Rattle.plate.specs.declared.Refusal.{Refusal}
use Rattle.plate.specs.declared.Fault.{Fault}
use Rattle.plate.specs.declared.Fault.TheVariants as fault
use Rattle.map_items.proofs.Split.{section_bytes_lem}

-- no test is both
pub never : {X : Type 0} → true ≡ false → X
never e = absurd (let z : ◌≡◌ {A = ℕ} 0 1 = cc in omega arith)

-- a fault is no acceptance
pub not_accepted : {X : Type 0} (f : Fault) (p : ℕ) → bad f p ≡ (Ok tt) → X
not_accepted f p e = absurd (let z : ◌≡◌ {A = ℕ} 0 1 = cc in omega arith)

-- two parts of a walk are accepted together
pub both_accepted : (v w : Result ⊤ Refusal) → and_then v w ≡ (Ok tt) → (v ≡ (Ok tt)) × (w ≡ (Ok tt))
both_accepted (Ok _) w e = (refl, e)
both_accepted (Err r) w e = absurd (let z : ◌≡◌ {A = ℕ} 0 1 = cc in omega arith)

-- an accepted item is accepted at any other place, and before anything that is accepted where what follows it was
pub item_anywhere : (section : Section) (seen : List ℕ) (p q : ℕ) (i : Item) (next other : List ℕ → Result ⊤ Refusal) → ((z : List ℕ) → next z ≡ (Ok tt) → other z ≡ (Ok tt))
    → on_item section seen p i next ≡ (Ok tt) → on_item section seen q i other ≡ (Ok tt)
item_anywhere section seen p q i next other h = go (fault_of (form_of section i.tag) i.value) (is_known (form_of section i.tag)) (has c seen)
  where
    c : ℕ
    c = counts_as i.tag

    go : (o : Option Fault) (b d : Bool) → or_bad o p (pick b (pick d (bad fault.Twice p) (next (c ∷ seen))) (next seen)) ≡ Ok tt
        → or_bad o q (pick b (pick d (bad fault.Twice q) (other (c ∷ seen))) (other seen)) ≡ Ok tt
    go None true true e = not_accepted fault.Twice p e
    go None true false e = h (c ∷ seen) e
    go None false d e = h seen e
    go (Some f) b d e = not_accepted f p e

pub judge_anywhere : (section : Section) (seen : List ℕ) (p q : ℕ) (is : List Item) → judge_items section seen p is ≡ (Ok tt) → judge_items section seen q is ≡ (Ok tt)
unfolding judge_items
judge_anywhere section seen p q [] e = refl
judge_anywhere section seen p q (i ∷ is) e = item_anywhere section seen p q i _ _ (λ z. judge_anywhere section z (p + 2 + length i.value) (q + 2 + length i.value) is) e

-- an accepted section is whole, and its items are accepted
pub verdict_accepted : (section : Section) (s : List ℕ) (p : ℕ) → verdict_of section s p ≡ (Ok tt) → (judge_items section [] p (section_of s).list ≡ (Ok tt)) × ((section_of s).end ≡ true)
unfolding verdict_of
verdict_accepted section s p e =
    let b = both_accepted (judge_items section [] p (section_of s).list) (ending p (section_of s)) e in
    (b.0, go (section_of s).end b.1)
  where
    go : (b : Bool) → pick b (Ok tt) (bad fault.Overhang (p + items_size (section_of s).list)) ≡ (Ok tt) → b ≡ true
    go true e = refl
    go false e = not_accepted fault.Overhang (p + items_size (section_of s).list) e

-- items put together are judged as they are
pub verdict_bytes : (section : Section) (is : List Item) (p : ℕ) → verdict_of section (items_bytes is) p ≡ and_then (judge_items section [] p is) (Ok tt)
unfolding verdict_of
verdict_bytes section is p = rw (section_bytes_lem is)
