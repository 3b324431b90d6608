-- Items (RDD 14, 7.1.2.2 and 7.1.3): a section's bytes taken apart into tags and values, by lengths alone, and put together again.
use Rattle.std.specs.Prelude.{ℕ, zero, suc, ◌+◌, Bool, true, false, List, [], ◌∷◌, ◌++◌, length, take, drop, leb}
use Rattle.plate.specs.Choice.{pick}
use Rattle.plate.specs.Ended.{Ended, none, in_front}

-- a tag and the bytes that its length byte counts
pub record Item : Type 0 where
  pub tag : ℕ
  pub value : List ℕ

-- a section taken apart: its items, and whether its bytes end where an item ends
abbrev pub Parts : Type 0
Parts = Ended Item Bool

-- f is more than the items that can follow
unfoldable pub split_items : ℕ → List ℕ → Parts
split_items zero s = none false
split_items (suc f) [] = none true
split_items (suc f) (t ∷ []) = none false
split_items (suc f) (t ∷ n ∷ s) =
    pick (leb n (length s)) (in_front (record { tag = t; value = take n s }) (split_items f (drop n s))) (none false)

unfoldable pub section_of : List ℕ → Parts
section_of s = split_items (suc (length s)) s

-- the bytes that some items take
unfoldable pub items_size : List Item → ℕ
items_size [] = 0
items_size (i ∷ is) = 2 + length i.value + items_size is

-- the bytes that some items are; a value of more than 255 has no length byte, and no law about bytes speaks of one
unfoldable pub items_bytes : List Item → List ℕ
items_bytes [] = []
items_bytes (i ∷ is) = i.tag ∷ length i.value ∷ (i.value ++ items_bytes is)
