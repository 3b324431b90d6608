-- An item found by its tag, a turn at a time, and what is known of it.
use Prim.Native.Nat.{ℕ, suc, ◌+◌, ◌-◌, ◌<◌, ◌≤◌}
use mathlib.Core.Path.{◌≡◌, refl, sym, ◌∙◌, ap}
use mathlib.Core.List.{List, [], ◌∷◌, ◌++◌, append_assoc}
use mathlib.Core.Bool.{Bool, true, false}
use native.Mathlib.Omega.{arith}
use native.Mathlib.Nat.{add-zero}
use lib.ListN.{length, get_or, take, drop, replicate, length-append, length-replicate}
use lib.Seq.{take-append_seam, drop-append-add}
use lib.Dec.{ltb, eqb}
use borrow.Author.Tests.{eq-eqb, ne_eqb, ltb-true, ltb-false}
use Rattle.std.specs.Prelude.{Some, None}
use Rattle.plate.specs.Choice.{pick}
use Rattle.map_items.specs.Items.{Item, Parts, split_items, section_of, items_size, items_bytes}
use Rattle.map_items.specs.Find.{found, find, part_of}
use Rattle.map_items.proofs.Anywhere.{never}
use Rattle.map_items.proofs.Split.{value_length, split_done, split_short, split_over, split_item, length-bytes, section_front}

-- what is left to find from a place on is the whole answer
pub record Left (tag : ℕ) (s : List ℕ) (base at : ℕ) : Type 0 where
  pub fuel : ℕ
  pub enough : length s - at < fuel
  pub same : find tag base (section_of s).list ≡ find tag (base + at) (split_items fuel (drop at s)).list

pub start : (tag : ℕ) (s : List ℕ) (base : ℕ) → Left tag s base 0
unfolding section_of
start tag s base = record { fuel = suc (length s); enough = omega arith; same = rw add-zero }

module _ (tag : ℕ) (s : List ℕ) (base at : ℕ) (l : Left tag s base at) where
  pub on_done : length s ≤ at → None ≡ part_of (find tag base (section_of s).list)
  unfolding find
  on_done h = sym (rw (l.same, split_done s at l.fuel (omega (arith, l.enough)) h))

  pub on_short : at < length s → length s - at < 2 → None ≡ part_of (find tag base (section_of s).list)
  unfolding find
  on_short h k = sym (rw (l.same, split_short s at l.fuel (omega (arith, l.enough)) (omega arith)))

  module _ (h : 2 ≤ length s - at) (n : ℕ) (e : n ≡ get_or s (at + 1) 0) where
    pub on_over : length s - at - 2 < n → None ≡ part_of (find tag base (section_of s).list)
    unfolding find
    on_over k = sym (rw (l.same, split_over s at l.fuel (omega (arith, l.enough)) n h e k))

    module _ (k : n ≤ length s - at - 2) where
      turn : find tag base (section_of s).list
          ≡ pick (eqb (get_or s at 0) tag) (found (base + at + 2) (take n (drop (at + 2) s))) (find tag (base + (at + 2 + n)) (split_items (l.fuel - 1) (drop (at + 2 + n) s)).list)
      unfolding find
      turn =
          let a : base + at + 2 + n ≡ base + (at + 2 + n) = omega arith in
          l.same ∙ rw (split_item s at l.fuel (omega (arith, l.enough)) n h e k, value_length s at n (omega arith), a)

      pub on_found : get_or s at 0 ≡ tag → Some (record { at = base + at + 2; len = n }) ≡ part_of (find tag base (section_of s).list)
      on_found q = sym (rw (turn, eq-eqb _ _ q, value_length s at n (omega arith)))

      pub on_next : (get_or s at 0 ≡ tag → ⊥) → Left tag s base (at + 2 + n)
      on_next q = record { fuel = l.fuel - 1; enough = omega (arith, l.enough); same = turn ∙ rw (ne_eqb _ _ q) }

-- in a section that ends where an item ends, no length needs a test
pub record Whole (tag : ℕ) (s : List ℕ) (base at : ℕ) : Type 0 where
  pub left : Left tag s base at
  pub whole : (split_items left.fuel (drop at s)).end ≡ true

pub whole_start : (tag : ℕ) (s : List ℕ) (base : ℕ) → (section_of s).end ≡ true → Whole tag s base 0
unfolding section_of
whole_start tag s base e = record { left = record { fuel = suc (length s); enough = omega arith; same = rw add-zero }; whole = e }

module _ (tag : ℕ) (s : List ℕ) (base at : ℕ) (w : Whole tag s base at) (h : at < length s) where
  -- an item's tag and length are there, and then its bytes
  pub two_there : 2 ≤ length s - at
  two_there = go (ltb (length s - at) 2) refl
    where
      go : (b : Bool) → ltb (length s - at) 2 ≡ b → 2 ≤ length s - at
      go true e =
          let k = ltb-true (length s - at) 2 e in
          never (sym w.whole ∙ ap (λ (p : Parts). p.end) (split_short s at w.left.fuel (omega (arith, w.left.enough)) (omega arith)))
      go false e = ltb-false (length s - at) 2 e

  pub all_there : (n : ℕ) → n ≡ get_or s (at + 1) 0 → n ≤ length s - at - 2
  all_there n e = go (ltb (length s - at - 2) n) refl
    where
      go : (b : Bool) → ltb (length s - at - 2) n ≡ b → n ≤ length s - at - 2
      go true q = never (sym w.whole ∙ ap (λ (p : Parts). p.end) (split_over s at w.left.fuel (omega (arith, w.left.enough)) n two_there e (ltb-true (length s - at - 2) n q)))
      go false q = ltb-false (length s - at - 2) n q

  pub whole_next : (n : ℕ) → n ≡ get_or s (at + 1) 0 → (get_or s at 0 ≡ tag → ⊥) → Whole tag s base (at + 2 + n)
  unfolding on_next
  whole_next n e q =
      record {
        left = on_next tag s base at w.left two_there n e (all_there n e) q;
        whole = sym (ap (λ (p : Parts). p.end) (split_item s at w.left.fuel (omega (arith, w.left.enough)) n two_there e (all_there n e))) ∙ w.whole;
      }

-- what is found among items stands where it is said to, in any bytes that hold the items
pub record Stands (s : List ℕ) (from to q : ℕ) (v : List ℕ) : Type 0 where
  pub low : from + 2 ≤ q
  pub high : q + length v ≤ to
  pub bytes : take (length v) (drop q s) ≡ v

pub find_stands : (tag : ℕ) (is : List Item) (pre post : List ℕ) (q : ℕ) (v : List ℕ) → find tag (length pre) is ≡ found q v
    → Stands (pre ++ (items_bytes is ++ post)) (length pre) (length pre + items_size is) q v
unfolding find items_bytes items_size
find_stands tag [] pre post q v e = absurd (let z : ◌≡◌ {A = ℕ} 0 1 = cc in omega arith)
find_stands tag (i ∷ is) pre post q v e = go (eqb i.tag tag) e (find_stands tag is (pre ++ head) post q v)
  where
    head : List ℕ
    head = i.tag ∷ length i.value ∷ i.value

    go : (b : Bool) → pick b (found (length pre + 2) i.value) (find tag (length pre + 2 + length i.value) is) ≡ found q v
        → (find tag (length (pre ++ head)) is ≡ found q v → Stands (pre ++ head ++ (items_bytes is ++ post)) (length (pre ++ head)) (length (pre ++ head) + items_size is) q v)
        → Stands (pre ++ (i.tag ∷ length i.value ∷ (i.value ++ items_bytes is) ++ post)) (length pre) (length pre + (2 + length i.value + items_size is)) q v
    go true e rest =
        let a : length pre + 2 ≡ q = cc in
        let b : i.value ≡ v = cc in
        record {
          low = omega arith;
          high = omega (arith, ap length b);
          bytes =
              rw (← a, ← b, drop-append-add pre (i.tag ∷ length i.value ∷ (i.value ++ items_bytes is) ++ post) 2, append_assoc i.value (items_bytes is) post)
              (take-append_seam i.value (items_bytes is ++ post));
        }
    go false e rest =
        let l : length (pre ++ head) ≡ length pre + 2 + length i.value = simp length-append (omega arith) in
        let r = rest (rw l e) in
        let s : pre ++ (i.tag ∷ length i.value ∷ (i.value ++ items_bytes is) ++ post) ≡ pre ++ head ++ (items_bytes is ++ post) = simp append_assoc in
        record { low = omega (arith, r.low); high = omega (arith, r.high); bytes = rw s r.bytes }

-- what is found in a section that begins at place base stands in it
pub section_stands : (tag base : ℕ) (s : List ℕ) (q : ℕ) (v : List ℕ) → find tag base (section_of s).list ≡ found q v
    → (base + 2 ≤ q) × (q + length v ≤ base + length s) × (take (length v) (drop (q - base) s) ≡ v)
section_stands tag base s q v e =
    let is = (section_of s).list in
    let pre : List ℕ = replicate base 0 in
    let post = drop (items_size is) s in
    let l : length pre ≡ base = length-replicate base 0 in
    let r = find_stands tag is pre post q v (rw l e) in
    let f = section_front s in
    let a : length pre + (q - base) ≡ q = omega (arith, r.low) in
    let b = drop-append-add pre (items_bytes is ++ post) (q - base) in
    let g = ap length f in
    (omega (arith, r.low), omega (arith, r.high, length-append (items_bytes is) post, length-bytes is), rw (← f) (rw (← b, a) r.bytes))
