-- A section's split at a place, and the split of what was put together.
use Prim.Native.Nat.{ℕ, zero, suc, ◌+◌, ◌-◌, ◌<◌, ◌≤◌}
use mathlib.Core.Path.{◌≡◌, refl, ◌∙◌}
use mathlib.Core.List.{List, [], ◌∷◌, ◌++◌, append_assoc}
use mathlib.Core.Bool.{Bool, true, false}
use native.Mathlib.Omega.{arith}
use lib.ListN.{length, get_or, take, drop, drop_of_length-le, length-drop, length-append, take-append-drop}
use lib.Seq.{drop-cons, drop-drop, length-take-le, take-append_seam, drop-append_seam}
use lib.Dec.{leb}
use borrow.Author.Tests.{le-leb, lt-leb, leb-true}
use Rattle.plate.specs.Choice.{pick}
use Rattle.plate.specs.Ended.{in_front, none}
use Rattle.map_items.specs.Items.{Item, Parts, split_items, section_of, items_size, items_bytes}

-- no item, at a clean end and at one that is not
abbrev pub clean : Parts
clean = none true

abbrev pub torn : Parts
torn = none false

-- the item at a place
abbrev pub item_at : List ℕ → ℕ → ℕ → Item
item_at s at n = record { tag = get_or s at 0; value = take n (drop (at + 2) s) }

-- its value has the bytes that were asked for
pub value_length : (s : List ℕ) (at n : ℕ) → n ≤ length s - (at + 2) → length (take n (drop (at + 2) s)) ≡ n
value_length s at n h = length-take-le n (drop (at + 2) s) (simp length-drop h)

-- the split at a place, by what stands there
module _ (s : List ℕ) (at f : ℕ) (h : zero < f) where
  pub split_done : length s ≤ at → split_items f (drop at s) ≡ clean
  unfolding split_items
  split_done e = rw (drop_of_length-le s e) (go f h)
    where
      go : (f : ℕ) → zero < f → split_items f [] ≡ clean
      go zero h = absurd (omega arith)
      go (suc f) h = refl

  pub split_short : at + 1 ≡ length s → split_items f (drop at s) ≡ torn
  unfolding split_items
  split_short e = rw (drop-cons s at 0 (omega arith), drop_of_length-le s {i = suc at} (omega arith)) (go f h)
    where
      go : (f : ℕ) → zero < f → split_items f (get_or s at 0 ∷ []) ≡ torn
      go zero h = absurd (omega arith)
      go (suc f) h = refl

  split_two : (n : ℕ) → at + 1 < length s → n ≡ get_or s (at + 1) 0
      → split_items f (drop at s) ≡ pick (leb n (length s - (at + 2))) (in_front (item_at s at n) (split_items (f - 1) (drop (at + 2 + n) s))) torn
  unfolding split_items
  split_two n l e = rw (drop-cons s at 0 (omega arith), drop-cons s (suc at) 0 (omega arith)) (go f h)
    where
      go : (f : ℕ) → zero < f
          → split_items f (get_or s at 0 ∷ get_or s (suc at) 0 ∷ drop (suc (suc at)) s)
          ≡ pick (leb n (length s - (at + 2))) (in_front (item_at s at n) (split_items (f - 1) (drop (at + 2 + n) s))) torn
      go zero h = absurd (omega arith)
      go (suc f) h =
          let a : suc f - 1 ≡ f = omega arith in
          let b : suc (suc at) ≡ at + 2 = omega arith in
          let d : suc at ≡ at + 1 = omega arith in
          rw (a, b, d, ← e, drop-drop) (simp length-drop)

  module _ (n : ℕ) (l : 2 ≤ length s - at) (e : n ≡ get_or s (at + 1) 0) where
    pub split_over : length s - at - 2 < n → split_items f (drop at s) ≡ torn
    split_over k = split_two n (omega arith) e ∙ rw (lt-leb n (length s - (at + 2)) (omega arith))

    pub split_item : n ≤ length s - at - 2 → split_items f (drop at s) ≡ in_front (item_at s at n) (split_items (f - 1) (drop (at + 2 + n) s))
    split_item k = split_two n (omega arith) e ∙ rw (le-leb n (length s - (at + 2)) (omega arith))

-- items put together come apart as they were
pub split_bytes : (is : List Item) (f : ℕ) → length (items_bytes is) < f → split_items f (items_bytes is) ≡ record { list = is; end = true }
unfolding split_items items_bytes
split_bytes is zero h = absurd (omega arith)
split_bytes [] (suc f) h = refl
split_bytes (i ∷ is) (suc f) h =
    let v = i.value in
    rw (
      le-leb (length v) (length (v ++ items_bytes is)) (simp length-append (omega arith)),
      take-append_seam v (items_bytes is),
      drop-append_seam v (items_bytes is),
      split_bytes is f (omega (arith, length-append v (items_bytes is))),
    )

pub section_bytes_lem : (is : List Item) → section_of (items_bytes is) ≡ record { list = is; end = true }
unfolding section_of
section_bytes_lem is = split_bytes is (suc (length (items_bytes is))) (omega arith)

-- a section that is whole is the bytes of its items
pub length-bytes : (is : List Item) → length (items_bytes is) ≡ items_size is
unfolding items_bytes items_size
length-bytes [] = refl
length-bytes (i ∷ is) = omega (arith, length-append i.value (items_bytes is), length-bytes is)

bytes_split : (f : ℕ) (s : List ℕ) → length s < f → (split_items f s).end ≡ true → items_bytes (split_items f s).list ≡ s
unfolding split_items items_bytes
bytes_split zero s h w = absurd (omega arith)
bytes_split (suc f) [] h w = refl
bytes_split (suc f) (t ∷ []) h w = absurd (let z : ◌≡◌ {A = ℕ} 0 1 = cc in omega arith)
bytes_split (suc f) (t ∷ n ∷ s) h w = go (leb n (length s)) refl (λ v. bytes_split f (drop n s) (simp length-drop (omega arith)) v) w
  where
    go : (b : Bool) → leb n (length s) ≡ b
        → ((split_items f (drop n s)).end ≡ true → items_bytes (split_items f (drop n s)).list ≡ drop n s)
        → (pick b (in_front (record { tag = t; value = take n s }) (split_items f (drop n s))) torn).end ≡ true
        → items_bytes (pick b (in_front (record { tag = t; value = take n s }) (split_items f (drop n s))) torn).list ≡ t ∷ n ∷ s
    go true q rest w = rw (length-take-le n s (leb-true _ _ q), rest w, take-append-drop)
    go false q rest w = absurd (let z : ◌≡◌ {A = ℕ} 0 1 = cc in omega arith)

pub section_whole : (s : List ℕ) → (section_of s).end ≡ true → items_bytes (section_of s).list ≡ s
unfolding section_of
section_whole s w = bytes_split (suc (length s)) s (omega arith) w

-- the items of a section, whole or not, are the bytes at its front
split_front : (f : ℕ) (s : List ℕ) → items_bytes (split_items f s).list ++ drop (items_size (split_items f s).list) s ≡ s
unfolding split_items items_bytes items_size
split_front zero s = refl
split_front (suc f) [] = refl
split_front (suc f) (t ∷ []) = refl
split_front (suc f) (t ∷ n ∷ s) = go (leb n (length s)) refl (split_front f (drop n s))
  where
    go : (b : Bool) → leb n (length s) ≡ b → items_bytes (split_items f (drop n s)).list ++ drop (items_size (split_items f (drop n s)).list) (drop n s) ≡ drop n s
        → items_bytes (pick b (in_front (record { tag = t; value = take n s }) (split_items f (drop n s))) torn).list
        ++ drop (items_size (pick b (in_front (record { tag = t; value = take n s }) (split_items f (drop n s))) torn).list) (t ∷ n ∷ s)
        ≡ t ∷ n ∷ s
    go true q rest =
        let z = items_size (split_items f (drop n s)).list in
        let a : 2 + n + z ≡ suc (suc (n + z)) = omega arith in
        let b = items_bytes (split_items f (drop n s)).list in
        rw (length-take-le n s (leb-true _ _ q), a, ← drop-drop z n s, append_assoc (take n s) b (drop z (drop n s)), rest, take-append-drop)
    go false q rest = refl

pub section_front : (s : List ℕ) → items_bytes (section_of s).list ++ drop (items_size (section_of s).list) s ≡ s
unfolding section_of
section_front s = split_front (suc (length s)) s
