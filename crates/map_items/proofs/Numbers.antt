-- The refusal of a section's items has a number from 8 to 11, and no bytes lack with it.
use Prim.Native.Nat.{ℕ, ◌+◌}
use mathlib.Core.Path.{refl}
use mathlib.Core.Bool.{Bool, true, false}
use mathlib.Core.List.{List, [], ◌∷◌}
use native.Mathlib.Omega.{arith}
use lib.ListN.{length}
use lib.Dec.{eqb}
use Rattle.std.specs.Prelude.{Some, None, Result, Ok, Err, ⊤}
use Rattle.plate.specs.Choice.{pick}
use Rattle.plate.proofs.Numbers.{either, Among}
use Rattle.text.specs.Text.{text_ok}
use Rattle.map_items.specs.Items.{Item, section_of}
use Rattle.map_items.specs.Judge.{or_bad, and_then, form_of, is_known, fault_of, counts_as, has, judge_items, ending, verdict_of}
use Rattle.map_items.specs.declared.Section.{Section}
use Rattle.map_items.specs.declared.Form.{Form}
use Rattle.map_items.specs.declared.Form.TheVariants as form
use Rattle.plate.specs.declared.Refusal.{Refusal}
use Rattle.plate.specs.declared.Fault.TheVariants as fault

-- an item's refusal
abbrev pub Own : Result ⊤ Refusal → Type 0
Own (Ok _) = Unit {0}
Own (Err r) = Among 8 11 r

pub both : (v w : Result ⊤ Refusal) → Own v → Own w → Own (and_then v w)
both (Ok _) w h k = k
both (Err r) w h k = h

-- an item's own fault is 9 or 11
item_own : (f : Form) (v : List ℕ) (p : ℕ) (w : Result ⊤ Refusal) → Own w → Own (or_bad (fault_of f v) p w)
unfolding fault_of
item_own form.Text v p w h = go (text_ok v)
  where
    go : (b : Bool) → Own (or_bad (pick b None (Some fault.Text)) p w)
    go true = h
    go false = (omega arith, omega arith, λ n. refl)
item_own (form.Sized n) v p w h = go (eqb (length v) n)
  where
    go : (b : Bool) → Own (or_bad (pick b None (Some fault.ItemSize)) p w)
    go true = h
    go false = (omega arith, omega arith, λ n. refl)
item_own form.Unknown v p w h = h

items_own : (c : Section) (seen : List ℕ) (p : ℕ) (is : List Item) → Own (judge_items c seen p is)
unfolding judge_items
items_own c seen p [] = tt
items_own c seen p (i ∷ is) =
    item_own (form_of c i.tag) i.value p _
    (either Own (is_known (form_of c i.tag))
    (either Own (has (counts_as i.tag) seen) (omega arith, omega arith, λ n. refl) (items_own c (counts_as i.tag ∷ seen) (p + 2 + length i.value) is))
    (items_own c seen (p + 2 + length i.value) is))

pub section_own : (c : Section) (s : List ℕ) (p : ℕ) → Own (verdict_of c s p)
unfolding verdict_of
section_own c s p = both (judge_items c [] p (section_of s).list) (ending p (section_of s)) (items_own c [] p (section_of s).list) (either Own (section_of s).end tt (omega arith, omega arith, λ n. refl))
