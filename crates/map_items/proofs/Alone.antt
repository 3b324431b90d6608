-- A known item stands alone among accepted ones: it is found where it stands, and what is found stands there. A text of one byte among them is a lone 00.
use Prim.Native.Nat.{ℕ, ◌+◌}
use mathlib.Core.Path.{◌≡◌, refl, sym, ◌∙◌, ap}
use mathlib.Core.Bool.{Bool, true, false}
use mathlib.Core.List.{List, [], ◌∷◌, ◌++◌}
use native.Mathlib.Omega.{arith}
use lib.ListN.{length}
use lib.Dec.{eqb}
use borrow.Author.Tests.{eq-eqb, eqb-true}
use Rattle.std.specs.Prelude.{Result, Ok, ⊤, Option, Some, None}
use Rattle.plate.specs.Choice.{pick}
use Rattle.text.specs.Text.{text_ok}
use Rattle.map_items.specs.Items.{Item, items_size}
use Rattle.map_items.specs.Find.{found, find}
use Rattle.map_items.specs.Judge.{bad, or_bad, form_of, is_known, fault_of, counts_as, has, judge_items}
use Rattle.map_items.specs.declared.Section.{Section}
use Rattle.map_items.specs.declared.Form.TheVariants as form
use Rattle.plate.specs.declared.Refusal.{Refusal}
use Rattle.plate.specs.declared.Fault.{Fault}
use Rattle.plate.specs.declared.Fault.TheVariants as fault
use Rattle.std.proofs.lemmas.Option.{none-some}
use Rattle.map_items.proofs.Anywhere.{never, not_accepted}

-- what an accepted item has met, and what follows it: unknown, or known and not seen before
after_item : {X : Type 0} (section : Section) (seen : List ℕ) (p : ℕ) (i : Item) (is : List Item) → judge_items section seen p (i ∷ is) ≡ (Ok tt)
    → (fault_of (form_of section i.tag) i.value ≡ None → is_known (form_of section i.tag) ≡ false → judge_items section seen (p + 2 + length i.value) is ≡ (Ok tt) → X)
    → (fault_of (form_of section i.tag) i.value ≡ None → is_known (form_of section i.tag) ≡ true → has (counts_as i.tag) seen ≡ false
    → judge_items section (counts_as i.tag ∷ seen) (p + 2 + length i.value) is ≡ (Ok tt) → X)
    → X
unfolding judge_items
after_item {X} section seen p i is e unknown known = go (fault_of (form_of section i.tag) i.value) refl (is_known (form_of section i.tag)) refl (has c seen) refl e
  where
    next : List ℕ → Result ⊤ Refusal
    next now-seen = judge_items section now-seen (p + 2 + length i.value) is

    c : ℕ
    c = counts_as i.tag

    go : (o : Option Fault) → fault_of (form_of section i.tag) i.value ≡ o → (b : Bool) → is_known (form_of section i.tag) ≡ b → (d : Bool) → has c seen ≡ d
        → or_bad o p (pick b (pick d (bad fault.Twice p) (next (c ∷ seen))) (next seen)) ≡ (Ok tt) → X
    go None k true l true m h = not_accepted fault.Twice p h
    go None k true l false m h = known k l m h
    go None k false l d m h = unknown k l h
    go (Some f) k b l d m h = not_accepted f p h

pub has_more : (n m : ℕ) (ms : List ℕ) → has n ms ≡ true → has n (m ∷ ms) ≡ true
unfolding has
has_more n m ms h = go (eqb n m)
  where
    go : (b : Bool) → pick b true (has n ms) ≡ true
    go true = refl
    go false = h

module _ (section : Section) (tag : ℕ) (known : is_known (form_of section tag) ≡ true) where
  -- a known tag that was seen does not come again
  comes_once : {X : Type 0} (seen : List ℕ) (p : ℕ) (before : List Item) (i : Item) (after : List Item) → has (counts_as tag) seen ≡ true → i.tag ≡ tag
      → judge_items section seen p (before ++ (i ∷ after)) ≡ (Ok tt) → X
  comes_once seen p [] i after h e g =
      after_item section seen p i after g
      (λ f u n. never (sym known ∙ ap (λ (t : ℕ). is_known (form_of section t)) (sym e) ∙ u))
      (λ f k m n. never (sym h ∙ ap (λ (t : ℕ). has (counts_as t) seen) (sym e) ∙ m))
  comes_once seen p (j ∷ before) i after h e g =
      after_item section seen p j (before ++ (i ∷ after)) g
      (λ f u n. comes_once seen (p + 2 + length j.value) before i after h e n)
      (λ f k m n. comes_once (counts_as j.tag ∷ seen) (p + 2 + length j.value) before i after (has_more (counts_as tag) (counts_as j.tag) seen h) e n)

  -- it is found where it stands
  pub found_there : (seen : List ℕ) (p : ℕ) (before : List Item) (i : Item) (after : List Item) → i.tag ≡ tag
      → judge_items section seen p (before ++ (i ∷ after)) ≡ (Ok tt) → find tag p (before ++ (i ∷ after)) ≡ found (p + items_size before + 2) i.value
  unfolding find items_size has
  found_there seen p [] i after e g = rw (eq-eqb i.tag tag e) (ap (λ (q : ℕ). found q i.value) (omega arith))
  found_there seen p (j ∷ before) i after e g =
      go (eqb j.tag tag) refl
      (after_item section seen p j (before ++ (i ∷ after)) g
      (λ f u n. found_there seen (p + 2 + length j.value) before i after e n)
      (λ f k m n. found_there (counts_as j.tag ∷ seen) (p + 2 + length j.value) before i after e n))
    where
      next : ℕ
      next = p + 2 + length j.value

      go : (b : Bool) → eqb j.tag tag ≡ b → find tag next (before ++ (i ∷ after)) ≡ found (next + items_size before + 2) i.value
          → pick b (found (p + 2) j.value) (find tag next (before ++ (i ∷ after))) ≡ found (p + (2 + length j.value + items_size before) + 2) i.value
      go true k later =
          let t : j.tag ≡ tag = eqb-true j.tag tag k in
          after_item section seen p j (before ++ (i ∷ after)) g
          (λ f u n. never (sym known ∙ ap (λ (t : ℕ). is_known (form_of section t)) (sym t) ∙ u))
          (λ f l m n. comes_once (counts_as j.tag ∷ seen) next before i after (rw (eq-eqb (counts_as tag) (counts_as j.tag) (ap counts_as (sym t)))) e n)
      go false k later = later ∙ ap (λ (q : ℕ). found q i.value) (omega arith)

-- what is found stands where it was found
pub record Standing (tag p : ℕ) (is : List Item) (q : ℕ) (v : List ℕ) : Type 0 where
  pub before : List Item
  pub after : List Item
  pub split : is ≡ before ++ (record { tag = tag; value = v } ∷ after)
  pub place : q ≡ p + items_size before + 2

pub stands : (tag p : ℕ) (is : List Item) (q : ℕ) (v : List ℕ) → find tag p is ≡ found q v → Standing tag p is q v
unfolding find items_size
stands tag p [] q v e = absurd (let z : ◌≡◌ {A = ℕ} 0 1 = cc in omega arith)
stands tag p (i ∷ is) q v e = go (eqb i.tag tag) refl e (stands tag (p + 2 + length i.value) is q v)
  where
    go : (b : Bool) → eqb i.tag tag ≡ b → pick b (found (p + 2) i.value) (find tag (p + 2 + length i.value) is) ≡ found q v
        → (find tag (p + 2 + length i.value) is ≡ found q v → Standing tag (p + 2 + length i.value) is q v) → Standing tag p (i ∷ is) q v
    go true k e rest =
        let t = eqb-true i.tag tag k in
        let a : p + 2 ≡ q = cc in
        let w : i.value ≡ v = cc in
        record { before = []; after = is; split = rw (← t, ← w); place = omega arith }
    go false k e rest = let r = rest e in record { before = i ∷ r.before; after = r.after; split = ap (λ (js : List Item). i ∷ js) r.split; place = omega (arith, r.place) }

-- an accepted item has no fault
pub faultless : (section : Section) (seen : List ℕ) (p : ℕ) (before : List Item) (i : Item) (after : List Item)
    → judge_items section seen p (before ++ (i ∷ after)) ≡ (Ok tt) → fault_of (form_of section i.tag) i.value ≡ None
faultless section seen p [] i after g = after_item section seen p i after g (λ f u n. f) (λ f k m n. f)
faultless section seen p (j ∷ before) i after g =
    after_item section seen p j (before ++ (i ∷ after)) g
    (λ f u n. faultless section seen (p + 2 + length j.value) before i after n)
    (λ f k m n. faultless section (counts_as j.tag ∷ seen) (p + 2 + length j.value) before i after n)

-- a text of one byte without a fault is a lone 00
pub lone_zero : (v : List ℕ) → fault_of form.Text v ≡ None → length v ≡ 1 → v ≡ 0 ∷ []
unfolding fault_of text_ok
lone_zero [] f l = absurd (omega arith)
lone_zero (x ∷ []) f l = go (eqb x 0) refl f
  where
    go : (b : Bool) → eqb x 0 ≡ b → pick b None (Some fault.Text) ≡ None → x ∷ [] ≡ 0 ∷ []
    go true k h = rw (eqb-true x 0 k)
    go false k h = absurd (none-some fault.Text (sym h))
lone_zero (x ∷ y ∷ s) f l = absurd (omega arith)
