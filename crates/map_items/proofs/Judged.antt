-- The judge of a section, a turn at a time: what is left to do from a place on is the whole answer.
use Prim.Native.Nat.{ℕ, suc, ◌+◌, ◌-◌, ◌<◌, ◌≤◌}
use mathlib.Core.Path.{◌≡◌, refl, sym, ◌∙◌}
use mathlib.Core.List.{List, [], ◌∷◌}
use mathlib.Core.Bool.{Bool, true, false}
use native.Mathlib.Omega.{arith}
use native.Mathlib.Nat.{add-zero}
use lib.ListN.{length, get_or, set, take, drop, replicate, get_or-replicate}
use lib.Seq.{get_or-set_same, get_or-set_other}
use lib.Dec.{eqb, ltb}
use borrow.Author.Tests.{ne_eqb, eqb-true, eqb-false, le-leb, lt-leb, ltb-true, ltb-false}
use Rattle.std.specs.Prelude.{Option, Some, None, Ok}
use Rattle.plate.specs.Choice.{pick}
use Rattle.plate.specs.Ended.{in_front}
use Rattle.map_items.specs.Items.{Item, Parts, split_items, section_of, items_size}
use Rattle.map_items.specs.Judge.{bad, and_then, form_of, is_known, fault_of, counts_as, has, or_bad, on_item, judge_items, ending, judge_parts, verdict_of}
use Rattle.map_items.specs.declared.Section.{Section}
use Rattle.map_items.specs.declared.Section.TheVariants.{Material, Track}
use Rattle.plate.specs.declared.Fault.{Fault}
use Rattle.plate.specs.declared.Fault.TheVariants as fault
use Rattle.map_items.proofs.Split.{item_at, value_length, split_done, split_short, split_over, split_item}

-- one item more in front is one turn of the judge
parts_turn : (section : Section) (seen : List ℕ) (p : ℕ) (i : Item) (rest : Parts)
    → judge_parts section seen p (in_front i rest) ≡ on_item section seen p i (λ z. judge_parts section z (p + 2 + length i.value) rest)
unfolding judge_items items_size
parts_turn section seen p i rest =
    let e : p + (2 + length i.value + items_size rest.list) ≡ p + 2 + length i.value + items_size rest.list = omega arith in
    rw e (go (fault_of (form_of section i.tag) i.value) (is_known (form_of section i.tag)) (has (counts_as i.tag) seen))
  where
    go : (f : Option Fault) (b d : Bool)
        → and_then
        (or_bad f p
        (pick b
        (pick d (bad fault.Twice p) (judge_items section (counts_as i.tag ∷ seen) (p + 2 + length i.value) rest.list))
        (judge_items section seen (p + 2 + length i.value) rest.list))) (ending (p + 2 + length i.value) rest)
        ≡ or_bad f p
        (pick b (pick d (bad fault.Twice p) (judge_parts section (counts_as i.tag ∷ seen) (p + 2 + length i.value) rest)) (judge_parts section seen (p + 2 + length i.value) rest))
    go None true true = refl
    go None true false = refl
    go None false d = refl
    go (Some f) b d = refl

-- the flags are those of the tags seen
abbrev pub Flagged : List Bool → List ℕ → Type 0
Flagged flags seen = (k : ℕ) → k < 19 → get_or flags k false ≡ has (0x40 + k) seen

unflagged : Flagged (replicate 19 false) []
unfolding has
unflagged k h = get_or-replicate 19 k false false h

flag : (t : ℕ) (flags : List Bool) (seen : List ℕ) → length flags ≡ 19 → 0x40 ≤ t → t < 0x53 → Flagged flags seen → Flagged (set flags (t - 0x40) true) (t ∷ seen)
unfolding has
flag t flags seen e a b f k h = go (eqb (0x40 + k) t) refl
  where
    go : (d : Bool) → eqb (0x40 + k) t ≡ d → get_or (set flags (t - 0x40) true) k false ≡ pick (eqb (0x40 + k) t) true (has (0x40 + k) seen)
    go true q =
        let r = eqb-true (0x40 + k) t q in let j : t - 0x40 ≡ k = omega arith in
        rw (q, j) (get_or-set_same flags k true false (omega arith))
    go false q =
        let r = eqb-false (0x40 + k) t q in
        rw q (get_or-set_other flags (t - 0x40) k true false (λ j. r (omega arith)) ∙ f k h)

-- what is left to do from a place on is the whole answer
pub record Left (section : Section) (s : List ℕ) (base : ℕ) (flags : List Bool) (at : ℕ) : Type 0 where
  pub fuel : ℕ
  pub enough : length s - at < fuel
  pub seen : List ℕ
  pub flagged : Flagged flags seen
  pub same : verdict_of section s base ≡ judge_parts section seen (base + at) (split_items fuel (drop at s))

pub start : (section : Section) (s : List ℕ) (base : ℕ) → Left section s base (replicate 19 false) 0
unfolding verdict_of section_of
start section s base = record { fuel = suc (length s); enough = omega arith; seen = []; flagged = unflagged; same = rw add-zero }

module _ (section : Section) (s : List ℕ) (base : ℕ) (flags : List Bool) (at : ℕ) (l : Left section s base flags at) where
  pub on_done : length s ≤ at → (Ok tt) ≡ verdict_of section s base
  unfolding judge_items
  on_done h = sym (l.same ∙ rw (split_done s at l.fuel (omega (arith, l.enough)) h))

  pub on_short : at < length s → length s - at < 2 → bad fault.Overhang (base + at) ≡ verdict_of section s base
  unfolding judge_items items_size
  on_short h k = sym (l.same ∙ rw (split_short s at l.fuel (omega (arith, l.enough)) (omega arith), add-zero))

  module _ (h : 2 ≤ length s - at) (n : ℕ) (e : n ≡ get_or s (at + 1) 0) where
    pub on_over : length s - at - 2 < n → bad fault.Overhang (base + at) ≡ verdict_of section s base
    unfolding judge_items items_size
    on_over k = sym (l.same ∙ rw (split_over s at l.fuel (omega (arith, l.enough)) n h e k, add-zero))

    module _ (k : n ≤ length s - at - 2) where
      turn : verdict_of section s base ≡ on_item section l.seen (base + at) (item_at s at n) (λ z. judge_parts section z (base + (at + 2 + n)) (split_items (l.fuel - 1) (drop (at + 2 + n) s)))
      turn =
          let a : base + at + 2 + n ≡ base + (at + 2 + n) = omega arith in
          l.same ∙ rw (split_item s at l.fuel (omega (arith, l.enough)) n h e k)
          (parts_turn section l.seen (base + at) (item_at s at n) (split_items (l.fuel - 1) (drop (at + 2 + n) s)) ∙ rw (value_length s at n (omega arith), a))

      module _ (o : Option Fault) (g : o ≡ fault_of (form_of section (get_or s at 0)) (take n (drop (at + 2) s))) where
        pub on_fault : (f : Fault) → o ≡ Some f → bad f (base + at) ≡ verdict_of section s base
        on_fault f z = sym (simp z at (rw (← g) at turn))

        module _ (z : o ≡ None) (b : Bool) (i : b ≡ is_known (form_of section (get_or s at 0))) where
          pub on_unknown : b ≡ false → Left section s base flags (at + 2 + n)
          on_unknown y =
              record {
                fuel = l.fuel - 1;
                enough = omega (arith, l.enough);
                seen = l.seen;
                flagged = l.flagged;
                same = simp (z, sym i ∙ y) at (rw (← g) at turn);
              }

          module _ (y : b ≡ true) (t : ℕ) (r : t ≡ counts_as (get_or s at 0)) (low : 0x40 ≤ t) (high : t < 0x53) where
            was_seen : get_or flags (t - 0x40) false ≡ has (counts_as (get_or s at 0)) l.seen
            was_seen = let j : 0x40 + (t - 0x40) ≡ t = omega arith in rw (← r) (l.flagged (t - 0x40) (omega arith) ∙ rw j)

            pub on_twice : get_or flags (t - 0x40) false ≡ true → bad fault.Twice (base + at) ≡ verdict_of section s base
            on_twice u = sym (simp (z, sym i ∙ y, sym was_seen ∙ u) at (rw (← g) at turn))

            pub on_next : length flags ≡ 19 → get_or flags (t - 0x40) false ≡ false → Left section s base (set flags (t - 0x40) true) (at + 2 + n)
            on_next w u =
                record {
                  fuel = l.fuel - 1;
                  enough = omega (arith, l.enough);
                  seen = t ∷ l.seen;
                  flagged = flag t flags l.seen w low high l.flagged;
                  same = rw r (simp (z, sym i ∙ y, sym was_seen ∙ u) at (rw (← g) at turn));
                }

-- a tag under 40 or over 52 is unknown everywhere
under : (section : Section) (t : ℕ) → t < 0x40 → is_known (form_of section t) ≡ false
unfolding form_of is_known
under Material t h = simp (ne_eqb t 0x40 (λ e. omega arith), lt-leb 0x41 t (omega arith))
under Track t h =
    simp (ne_eqb t 0x4C (λ e. omega arith), ne_eqb t 0x4D (λ e. omega arith), ne_eqb t 0x4E (λ e. omega arith), ne_eqb t 0x4F (λ e. omega arith), lt-leb 0x50 t (omega arith))

beyond : (section : Section) (t : ℕ) → 0x53 ≤ t → is_known (form_of section t) ≡ false
unfolding form_of is_known
beyond Material t h = simp (ne_eqb t 0x40 (λ e. omega arith), le-leb 0x41 t (omega arith), lt-leb t 0x45 (omega arith))
beyond Track t h =
    simp
    (ne_eqb t 0x4C (λ e. omega arith), ne_eqb t 0x4D (λ e. omega arith), ne_eqb t 0x4E (λ e. omega arith), ne_eqb t 0x4F (λ e. omega arith), le-leb 0x50 t (omega arith), lt-leb t 0x52 (omega arith))

-- a known tag, and what it counts as, is one of 40 to 52
pub known_range : (section : Section) (t : ℕ) → is_known (form_of section t) ≡ true → (0x40 ≤ counts_as t) × (counts_as t < 0x53)
unfolding counts_as
known_range section t e = go (ltb t 0x40) (ltb t 0x53) (eqb t 0x4F) refl refl
  where
    go : (a b d : Bool) → ltb t 0x40 ≡ a → ltb t 0x53 ≡ b → (0x40 ≤ pick d 0x4D t) × (pick d 0x4D t < 0x53)
    go a b true p q = omega arith
    go true b false p q = absurd (let f = under section t (ltb-true _ _ p) in let z : true ≡ false = sym e ∙ f in let y : ◌≡◌ {A = ℕ} 0 1 = cc in omega arith)
    go false true false p q = (ltb-false _ _ p, ltb-true _ _ q)
    go false false false p q = absurd (let f = beyond section t (ltb-false _ _ q) in let z : true ≡ false = sym e ∙ f in let y : ◌≡◌ {A = ℕ} 0 1 = cc in omega arith)
