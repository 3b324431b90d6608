-- Items struck and set in: they stay accepted, take no more bytes than they should, and say the same.
use Prim.Native.Nat.{ℕ, zero, suc, ◌+◌, ◌≤◌}
use mathlib.Core.Path.{◌≡◌, refl, sym, ◌∙◌, ap}
use mathlib.Core.Bool.{Bool, true, false, not}
use mathlib.Core.List.{List, [], ◌∷◌}
use native.Mathlib.Omega.{arith}
use lib.ListN.{length}
use lib.Dec.{eqb}
use borrow.Author.Tests.{eqb-true, eq-eqb, not-false}
use Rattle.std.specs.Prelude.{Ok, Option, Some, None}
use Rattle.plate.specs.Choice.{pick, within}
use Rattle.number.proofs.Bytes.{AllBytes, bytes_join, bytes_left, bytes_right}
use Rattle.map_items.specs.Items.{Item, items_size, items_bytes}
use Rattle.map_items.specs.Find.{missing, found, find}
use Rattle.map_items.specs.Judge.{bad, or_bad, form_of, is_known, fault_of, counts_as, has, judge_items}
use Rattle.map_items.specs.declared.Section.{Section}
use Rattle.map_items.specs.declared.Section.TheVariants as section
use Rattle.map_items.specs.declared.Form.{Form}
use Rattle.map_items.specs.declared.Form.TheVariants as form
use Rattle.map_items.proofs.Alone.{has_more}
use Rattle.map_items.proofs.Anywhere.{never, not_accepted, item_anywhere, judge_anywhere}
use Rattle.map_answer.specs.Answer.{value_of, code_of}
use Rattle.map_answer.specs.declared.Code.{Code}
use Rattle.map_answer.specs.declared.Code.TheVariants as code
use Rattle.plate.specs.declared.Fault.{Fault}
use Rattle.plate.specs.declared.Fault.TheVariants as fault
use Rattle.map.specs.Inside.{held_of}
use Rattle.map_newer.specs.Strike.{kept, is_reserved, track_stays, set_at}

-- keeping twice is keeping once; what is set in and does not stay is not kept
pub kept_again : {A : Type 0} (stays : A → Bool) (xs : List A) → kept stays (kept stays xs) ≡ kept stays xs
unfolding kept
kept_again stays [] = refl
kept_again stays (x ∷ xs) = go (stays x) refl (kept_again stays xs)
  where
    go : (b : Bool) → stays x ≡ b → kept stays (kept stays xs) ≡ kept stays xs → kept stays (pick b (x ∷ kept stays xs) (kept stays xs)) ≡ pick b (x ∷ kept stays xs) (kept stays xs)
    go true q e = rw (q, e)
    go false q e = e

pub kept_set : {A : Type 0} (stays : A → Bool) (k : ℕ) (x : A) (ys : List A) → stays x ≡ false → kept stays (set_at k x ys) ≡ kept stays ys
unfolding kept set_at
kept_set stays zero x ys e = rw e
kept_set stays (suc k) x [] e = rw e
kept_set stays (suc k) x (y ∷ ys) e = rw (kept_set stays k x ys e)

-- one list of tags or IDs holds none that another lacks
abbrev pub Fewer : List ℕ → List ℕ → Type 0
Fewer fewer more = (t : ℕ) → has t more ≡ false → has t fewer ≡ false

pub fewer_both : (n : ℕ) (fewer more : List ℕ) → Fewer fewer more → Fewer (n ∷ fewer) (n ∷ more)
unfolding has
fewer_both n fewer more f t = go (eqb t n)
  where
    go : (b : Bool) → pick b true (has t more) ≡ false → pick b true (has t fewer) ≡ false
    go true e = e
    go false e = f t e

pub fewer_one : (n : ℕ) (fewer more : List ℕ) → Fewer fewer more → Fewer fewer (n ∷ more)
unfolding has
fewer_one n fewer more f t = go (eqb t n)
  where
    go : (b : Bool) → pick b true (has t more) ≡ false → has t fewer ≡ false
    go true e = never e
    go false e = f t e

-- accepted items without some of them are accepted
pub kept_good : (section : Section) (stays : Item → Bool) (more fewer : List ℕ) (p q : ℕ) (is : List Item) → Fewer fewer more
    → judge_items section more p is ≡ (Ok tt) → judge_items section fewer q (kept stays is) ≡ (Ok tt)
unfolding judge_items kept
kept_good section stays more fewer p q [] f e = refl
kept_good section stays more fewer p q (i ∷ is) f e =
    go (fault_of (form_of section i.tag) i.value) (is_known (form_of section i.tag)) (has c more) (stays i) refl refl refl
    (λ m l r. kept_good section stays m l (p + 2 + length i.value) r is) e
  where
    c : ℕ
    c = counts_as i.tag

    go : (x : Option Fault) (y z w : Bool) → fault_of (form_of section i.tag) i.value ≡ x → is_known (form_of section i.tag) ≡ y → has c more ≡ z
        → ((m l : List ℕ) (r : ℕ) → Fewer l m → judge_items section m (p + 2 + length i.value) is ≡ (Ok tt) → judge_items section l r (kept stays is) ≡ (Ok tt))
        → or_bad x p
        (pick y (pick z (bad fault.Twice p) (judge_items section (c ∷ more) (p + 2 + length i.value) is)) (judge_items section more (p + 2 + length i.value) is)) ≡ (Ok tt)
        → judge_items section fewer q (pick w (i ∷ kept stays is) (kept stays is)) ≡ (Ok tt)
    go (Some t) y z w a b d rest e = not_accepted t p e
    go None true true w a b d rest e = not_accepted fault.Twice p e
    go None true false true a b d rest e = rw (a, b, f c d) (rest (c ∷ more) (c ∷ fewer) (q + 2 + length i.value) (fewer_both c fewer more f) e)
    go None true false false a b d rest e = rest (c ∷ more) fewer q (fewer_one c fewer more f) e
    go None false z true a b d rest e = rw (a, b) (rest more fewer (q + 2 + length i.value) f e)
    go None false z false a b d rest e = rest more fewer q f e

-- an unknown item has no fault, and accepted items with it are accepted
unknown_sound : (f : Form) (v : List ℕ) → is_known f ≡ false → fault_of f v ≡ None
unfolding is_known fault_of
unknown_sound form.Text v e = never e
unknown_sound (form.Sized n) v e = never e
unknown_sound form.Unknown v e = refl

pub set_good : (section : Section) (seen : List ℕ) (p q k : ℕ) (i : Item) (is : List Item) → is_known (form_of section i.tag) ≡ false
    → judge_items section seen p is ≡ (Ok tt) → judge_items section seen q (set_at k i is) ≡ (Ok tt)
unfolding judge_items set_at
set_good section seen p q zero i is u e =
    rw (unknown_sound (form_of section i.tag) i.value u, u) (judge_anywhere section seen p (q + 2 + length i.value) is e)
set_good section seen p q (suc k) i [] u e = rw (unknown_sound (form_of section i.tag) i.value u, u)
set_good section seen p q (suc k) i (x ∷ is) u e =
    item_anywhere section seen p q x _ _ (λ z. set_good section z (p + 2 + length x.value) (q + 2 + length x.value) k i is u) e

-- the bytes they take
pub kept_size : (stays : Item → Bool) (is : List Item) → items_size (kept stays is) ≤ items_size is
unfolding items_size kept
kept_size stays [] = omega arith
kept_size stays (i ∷ is) = go (stays i) (kept_size stays is)
  where
    go : (b : Bool) → items_size (kept stays is) ≤ items_size is → items_size (pick b (i ∷ kept stays is) (kept stays is)) ≤ 2 + length i.value + items_size is
    go true h = omega arith
    go false h = omega arith

pub set_size : (k : ℕ) (i : Item) (is : List Item) → items_size (set_at k i is) ≡ items_size is + 2 + length i.value
unfolding items_size set_at
set_size zero i is = omega arith
set_size (suc k) i [] = omega arith
set_size (suc k) i (x ∷ is) = omega (arith, set_size k i is)

-- they are bytes
pub kept_bytes : (stays : Item → Bool) (is : List Item) → AllBytes (items_bytes is) → AllBytes (items_bytes (kept stays is))
unfolding items_bytes kept
kept_bytes stays [] b = tt
kept_bytes stays (i ∷ is) b = go (stays i) (kept_bytes stays is (bytes_right i.value (items_bytes is) b.1.1))
  where
    go : (d : Bool) → AllBytes (items_bytes (kept stays is)) → AllBytes (items_bytes (pick d (i ∷ kept stays is) (kept stays is)))
    go true rest = (b.0, (b.1.0, bytes_join i.value (items_bytes (kept stays is)) (bytes_left i.value (items_bytes is) b.1.1) rest))
    go false rest = rest

pub set_bytes : (k : ℕ) (i : Item) (is : List Item) → AllBytes (items_bytes (i ∷ [])) → AllBytes (items_bytes is) → AllBytes (items_bytes (set_at k i is))
unfolding items_bytes set_at
set_bytes zero i is h b = (h.0, (h.1.0, bytes_join i.value (items_bytes is) (bytes_left i.value [] h.1.1) b))
set_bytes (suc k) i [] h b = h
set_bytes (suc k) i (x ∷ is) h b = (
  b.0,
  (
    b.1.0,
    bytes_join x.value (items_bytes (set_at k i is)) (bytes_left x.value (items_bytes is) b.1.1)
        (set_bytes k i is h (bytes_right x.value (items_bytes is) b.1.1)),
  ),
)

-- where every item of a tag stays, the tag is found as before
pub kept_held : (tag : ℕ) (stays : Item → Bool) → ((i : Item) → i.tag ≡ tag → stays i ≡ true) → (q r : ℕ) (is : List Item) → held_of (find tag q (kept stays is)) ≡ held_of (find tag r is)
unfolding find kept held_of
kept_held tag stays s q r [] = refl
kept_held tag stays s q r (i ∷ is) = go (eqb i.tag tag) (stays i) refl refl (λ x. kept_held tag stays s x (r + 2 + length i.value) is)
  where
    go : (a b : Bool) → eqb i.tag tag ≡ a → stays i ≡ b → ((x : ℕ) → held_of (find tag x (kept stays is)) ≡ held_of (find tag (r + 2 + length i.value) is))
        → held_of (find tag q (pick b (i ∷ kept stays is) (kept stays is))) ≡ held_of (pick a (found (r + 2) i.value) (find tag (r + 2 + length i.value) is))
    go true true y z h = rw y
    go true false y z h = never (sym (s i (eqb-true _ _ y)) ∙ z)
    go false true y z h = rw y (h (q + 2 + length i.value))
    go false false y z h = h q

pub has_first : (n : ℕ) (ms : List ℕ) → has n (n ∷ ms) ≡ true
unfolding has
has_first n ms = rw (eq-eqb n n refl)

-- a known tag that was seen does not come again, in accepted items
gone : (tag : ℕ) → is_known (form_of section.Track tag) ≡ true → (stays : Item → Bool) (seen : List ℕ) (p q : ℕ) (is : List Item) → has (counts_as tag) seen ≡ true
    → judge_items section.Track seen p is ≡ (Ok tt) → find tag q (kept stays is) ≡ missing
unfolding find kept judge_items
gone tag known stays seen p q [] h e = refl
gone tag known stays seen p q (i ∷ is) h e =
    go (eqb i.tag tag) (stays i) (fault_of (form_of section.Track i.tag) i.value) (is_known (form_of section.Track i.tag)) (has c seen) refl refl refl
    (λ z x. gone tag known stays z (p + 2 + length i.value) x is) e
  where
    c : ℕ
    c = counts_as i.tag

    on : (b : Bool) → eqb i.tag tag ≡ false → ((x : ℕ) → find tag x (kept stays is) ≡ missing) → find tag q (pick b (i ∷ kept stays is) (kept stays is)) ≡ missing
    on true y rest = rw y (rest (q + 2 + length i.value))
    on false y rest = rest q

    go : (a b : Bool) (x : Option Fault) (y z : Bool) → eqb i.tag tag ≡ a → is_known (form_of section.Track i.tag) ≡ y → has c seen ≡ z
        → ((l : List ℕ) (r : ℕ) → has (counts_as tag) l ≡ true → judge_items section.Track l (p + 2 + length i.value) is ≡ (Ok tt) → find tag r (kept stays is) ≡ missing)
        → or_bad x p
        (pick y (pick z (bad fault.Twice p) (judge_items section.Track (c ∷ seen) (p + 2 + length i.value) is)) (judge_items section.Track seen (p + 2 + length i.value) is)) ≡ (Ok tt)
        → find tag q (pick b (i ∷ kept stays is) (kept stays is)) ≡ missing
    go a b (Some t) y z k l m rest e = not_accepted t p e
    go a b None true true k l m rest e = not_accepted fault.Twice p e
    go true b None true false k l m rest e = never (sym h ∙ ap (λ (t : ℕ). has (counts_as t) seen) (sym (eqb-true _ _ k)) ∙ m)
    go false b None true false k l m rest e = on b k (λ r. rest (c ∷ seen) r (has_more (counts_as tag) c seen h) e)
    go true b None false z k l m rest e = never (sym known ∙ ap (λ (t : ℕ). is_known (form_of section.Track t)) (sym (eqb-true _ _ k)) ∙ l)
    go false b None false z k l m rest e = on b k (λ r. rest seen r h e)

-- a code is reserved where it counts as absent
reserved_absent : (c : Code) → is_reserved c ≡ true → c ≡ code.Absent
unfolding is_reserved
reserved_absent (code.Is n) e = never (sym e)
reserved_absent code.NotApplicable e = never (sym e)
reserved_absent code.NotAvailable e = never (sym e)
reserved_absent code.Absent e = refl

-- a rate, line or field item: the code that is told is the same, with reserved ones struck
module _ (tag : ℕ) (known : is_known (form_of section.Track tag) ≡ true) (coded : within 0x50 0x52 tag ≡ true) where
  stays_as : (i : Item) → i.tag ≡ tag → track_stays i ≡ not (is_reserved (code_of tag (value_of (found 0 i.value))))
  unfolding track_stays
  stays_as i e = rw (e, known, coded)

  anyplace : (p q : ℕ) (v : List ℕ) → code_of tag (value_of (found p v)) ≡ code_of tag (value_of (found q v))
  unfolding value_of
  anyplace p q v = refl

  missing_code : code_of tag (value_of missing) ≡ code.Absent
  unfolding value_of code_of
  missing_code = refl

  pub kept_code : (seen : List ℕ) (p q r : ℕ) (is : List Item) → judge_items section.Track seen p is ≡ (Ok tt)
      → code_of tag (value_of (find tag q (kept track_stays is))) ≡ code_of tag (value_of (find tag r is))
  unfolding find kept judge_items
  kept_code seen p q r [] e = refl
  kept_code seen p q r (i ∷ is) e =
      go (eqb i.tag tag) (track_stays i) (fault_of (form_of section.Track i.tag) i.value) (is_known (form_of section.Track i.tag)) (has c seen) refl refl refl refl
      (λ z x. kept_code z (p + 2 + length i.value) x (r + 2 + length i.value) is) e
    where
      c : ℕ
      c = counts_as i.tag

      v : List ℕ
      v = i.value

      this : Code
      this = code_of tag (value_of (found 0 v))

      later : (b : Bool) → eqb i.tag tag ≡ false
          → ((x : ℕ) → code_of tag (value_of (find tag x (kept track_stays is))) ≡ code_of tag (value_of (find tag (r + 2 + length v) is)))
          → code_of tag (value_of (find tag q (pick b (i ∷ kept track_stays is) (kept track_stays is)))) ≡ code_of tag (value_of (find tag (r + 2 + length v) is))
      later true y rest = rw y (rest (q + 2 + length v))
      later false y rest = rest q

      here : (b : Bool) → eqb i.tag tag ≡ true → not (is_reserved this) ≡ b → find tag q (kept track_stays is) ≡ missing
          → code_of tag (value_of (find tag q (pick b (i ∷ kept track_stays is) (kept track_stays is)))) ≡ code_of tag (value_of (found (r + 2) v))
      here true y z m = rw y (anyplace (q + 2) (r + 2) v)
      here false y z m = rw m (missing_code ∙ sym (anyplace (r + 2) 0 v ∙ reserved_absent this (not-false (is_reserved this) z)))

      go : (a b : Bool) (x : Option Fault) (y z : Bool) → eqb i.tag tag ≡ a → track_stays i ≡ b → is_known (form_of section.Track i.tag) ≡ y → has c seen ≡ z
          → ((l : List ℕ) (x : ℕ) → judge_items section.Track l (p + 2 + length v) is ≡ (Ok tt)
          → code_of tag (value_of (find tag x (kept track_stays is))) ≡ code_of tag (value_of (find tag (r + 2 + length v) is)))
          → or_bad x p
          (pick y (pick z (bad fault.Twice p) (judge_items section.Track (c ∷ seen) (p + 2 + length v) is)) (judge_items section.Track seen (p + 2 + length v) is)) ≡ (Ok tt)
          → code_of tag (value_of (find tag q (pick b (i ∷ kept track_stays is) (kept track_stays is)))) ≡ code_of tag (value_of (pick a (found (r + 2) v) (find tag (r + 2 + length v) is)))
      go a b (Some t) y z k s l m rest e = not_accepted t p e
      go a b None true true k s l m rest e = not_accepted fault.Twice p e
      go true b None true false k s l m rest e =
          let t : i.tag ≡ tag = eqb-true _ _ k in
          let h : has (counts_as tag) (c ∷ seen) ≡ true = rw (← t) (has_first (counts_as i.tag) seen) in
          here b k (sym (stays_as i t) ∙ s) (gone tag known track_stays (c ∷ seen) (p + 2 + length v) q is h e)
      go false b None true false k s l m rest e = later b k (λ x. rest (c ∷ seen) x e)
      go true b None false z k s l m rest e = never (sym known ∙ ap (λ (t : ℕ). is_known (form_of section.Track t)) (sym (eqb-true _ _ k)) ∙ l)
      go false b None false z k s l m rest e = later b k (λ x. rest seen x e)
