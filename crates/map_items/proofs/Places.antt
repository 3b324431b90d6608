-- The place of a section's fault stands in the section.
use Prim.Native.Nat.{ℕ, ◌+◌, ◌≤◌}
use mathlib.Core.Path.{◌≡◌, sym, ap}
use mathlib.Core.Bool.{Bool, true, false}
use mathlib.Core.List.{List, [], ◌∷◌}
use native.Mathlib.Omega.{arith}
use lib.ListN.{length, drop, length-append}
use Rattle.std.specs.Prelude.{Result, Ok, Err, ⊤, Option, Some, None}
use Rattle.plate.specs.Choice.{pick}
use Rattle.plate.specs.Plate.{refusal}
use Rattle.plate.specs.declared.Refusal.{Refusal}
use Rattle.map_items.specs.Items.{Item, section_of, items_size, items_bytes}
use Rattle.map_items.specs.Judge.{bad, or_bad, and_then, form_of, is_known, fault_of, counts_as, has, judge_items, ending, verdict_of}
use Rattle.map_items.specs.declared.Section.{Section}
use Rattle.plate.specs.declared.Fault.{Fault}
use Rattle.plate.specs.declared.Fault.TheVariants as fault
use Rattle.map_items.proofs.Split.{length-bytes, section_front}

-- of a fault at a place
pub at_place : (f : Fault) (p : ℕ) (r : Refusal) → bad f p ≡ Err r → r.place ≡ p
at_place f p r e = let a : refusal f p ≡ r = cc in sym (ap (λ (x : Refusal). x.place) a)

-- an accepted verdict is no refusal
pub not_refused : {X : Type 0} (r : Refusal) → ◌≡◌ {A = Result ⊤ Refusal} (Ok tt) (Err r) → X
not_refused r e = absurd (let z : ◌≡◌ {A = ℕ} 0 1 = cc in omega arith)

-- the fault of two parts is that of the one or of the other
pub either_part : {X : Type 0} (v w : Result ⊤ Refusal) (r : Refusal) → and_then v w ≡ Err r → (v ≡ Err r → X) → (w ≡ Err r → X) → X
either_part (Ok _) w r e f g = g e
either_part (Err q) w r e f g = f e

items_place : (section : Section) (seen : List ℕ) (p : ℕ) (is : List Item) (r : Refusal) → judge_items section seen p is ≡ Err r → r.place ≤ p + items_size is
unfolding judge_items items_size
items_place section seen p [] r e = not_refused r e
items_place section seen p (i ∷ is) r e =
    go (fault_of (form_of section i.tag) i.value) (is_known (form_of section i.tag)) (has (counts_as i.tag) seen) e
    (λ z f. items_place section z (p + 2 + length i.value) is r f)
  where
    go : (o : Option Fault) (b d : Bool)
        → or_bad o p
        (pick b
        (pick d (bad fault.Twice p) (judge_items section (counts_as i.tag ∷ seen) (p + 2 + length i.value) is))
        (judge_items section seen (p + 2 + length i.value) is)) ≡ Err r
        → ((z : List ℕ) → judge_items section z (p + 2 + length i.value) is ≡ Err r → r.place ≤ p + 2 + length i.value + items_size is)
        → r.place ≤ p + (2 + length i.value + items_size is)
    go None true true e ih = omega (arith, at_place fault.Twice p r e)
    go None true false e ih = omega (arith, ih _ e)
    go None false d e ih = omega (arith, ih _ e)
    go (Some f) b d e ih = omega (arith, at_place f p r e)

pub items_size_lem : (s : List ℕ) → items_size (section_of s).list ≤ length s
items_size_lem s =
    let f = ap length (section_front s) in
    omega (arith, length-append (items_bytes (section_of s).list) (drop (items_size (section_of s).list) s), length-bytes (section_of s).list)

pub place_within : (section : Section) (s : List ℕ) (base : ℕ) (r : Refusal) → verdict_of section s base ≡ Err r → r.place ≤ base + length s
unfolding verdict_of
place_within section s base r e =
    either_part (judge_items section [] base (section_of s).list) (ending base (section_of s)) r e
    (λ f. let a = items_place section [] base (section_of s).list r f in omega (arith, items_size_lem s))
    (λ f. go (section_of s).end f)
  where
    go : (b : Bool) → pick b (Ok tt) (bad fault.Overhang (base + items_size (section_of s).list)) ≡ Err r → r.place ≤ base + length s
    go true f = not_refused r f
    go false f = omega (arith, items_size_lem s, at_place fault.Overhang (base + items_size (section_of s).list) r f)
