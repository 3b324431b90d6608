-- What taking a section apart tells, and the other way (RDD 14, 7.3.2.4 to 7.3.2.6; 02, §1): so that `walk`, which goes step by step, need not be believed.
use Rattle.std.specs.Prelude.{ℕ, ◌+◌, ◌<◌, ◌≤◌, ◌≡◌, true, false, List, [], ◌∷◌, ◌++◌, length, take, drop, Ok}
use Rattle.map_items.specs.Find.{missing, found}
use Rattle.umf.specs.Split.{least_of, stated_of, is_counted, Parts, split_of, size_of}
use Rattle.umf.specs.Umf.{flag_of, length_of, payload_of, section_at, section_size, section_of, count_of, parts_of, section_verdict, umf_verdict, nth_in}
use Rattle.umf.specs.declared.Described.{Described}

-- a description or record by itself: it states its own length, and has its fixed fields
pub record Whole (k : Described) (d : List ℕ) : Type 0 where
  pub stated : stated_of k d ≡ length d
  pub least : least_of k ≤ length d

unfoldable pub AllWhole : Described → List (List ℕ) → Type 0
AllWhole k [] = Unit {0}
AllWhole k (d ∷ ds) = Whole k d × AllWhole k ds

-- one behind the other
unfoldable pub join : List (List ℕ) → List ℕ
join [] = []
join (d ∷ ds) = d ++ join ds

-- some bytes that were asked for n, and came apart into w: what is in front is whole, in order, with nothing between; and either it is all that was asked for, or what follows begins with none
pub record SplitSays (k : Described) (n : ℕ) (s : List ℕ) (w : Parts) : Type 0 where
  pub each : AllWhole k w.list
  pub front : s ≡ join w.list ++ drop (size_of w.list) s
  pub counted : w.end ≡ true → is_counted k ≡ true → length w.list ≡ n
  pub used : w.end ≡ true → is_counted k ≡ false → length s ≤ n → size_of w.list ≡ length s
  pub stopped : w.end ≡ false → (length w.list < n) × ((d r : List ℕ) → drop (size_of w.list) s ≡ d ++ r → Whole k d → ⊥)

-- put together they are taken apart again: as many as are asked for, with anything behind; of user records all, with nothing behind
pub record PutTogether (k : Described) (ds : List (List ℕ)) : Type 0 where
  pub counted : is_counted k ≡ true → (r : List ℕ) → split_of k (length ds) (join ds ++ r) ≡ record { list = ds; end = true }
  pub used : is_counted k ≡ false → (n : ℕ) → length ds ≤ n → split_of k n (join ds) ≡ record { list = ds; end = true }

-- a section of a payload that holds these, wherever it stands: its bytes begin with them, as many as Table 16 states; a user section has nothing else
pub record Laid (k : Described) (y : List ℕ) (ds : List (List ℕ)) : Type 0 where
  pub inside : section_at k y + section_size k y ≤ length y
  pub each : AllWhole k ds
  pub behind : List ℕ
  pub bytes : section_of k y ≡ join ds ++ behind
  pub counted : is_counted k ≡ true → count_of k y ≡ length ds
  pub used : is_counted k ≡ false → behind ≡ []

-- a packet with a whole UMF in it: its payload lies in it, has both descriptions, and each section holds what is read of it
pub record Opened (p : List ℕ) : Type 0 where
  pub flag : flag_of p ≡ 3
  pub payload : 21 + length_of p ≤ length p
  pub described : 104 ≤ length_of p
  pub size : length (payload_of p) ≡ length_of p
  pub sections : (k : Described) → Laid k (payload_of p) (parts_of k (payload_of p)).list

pub record UmfLaws : Type 1 where
  pub split : (k : Described) (n : ℕ) (s : List ℕ) → SplitSays k n s (split_of k n s)
  pub put : (k : Described) (ds : List (List ℕ)) → AllWhole k ds → PutTogether k ds
  -- an accepted packet that is opened has all that in its place; and who has it is accepted, and read so
  pub has : (p : List ℕ) → umf_verdict p ≡ (Ok tt) → flag_of p ≡ 3 → Opened p
  pub laid : (k : Described) (y : List ℕ) (ds : List (List ℕ)) → Laid k y ds → (parts_of k y ≡ record { list = ds; end = true }) × (section_verdict k y ≡ (Ok tt))
  pub accepts : (p : List ℕ) → flag_of p ≡ 3 → 21 + length_of p ≤ length p → 104 ≤ length_of p → ((k : Described) → section_verdict k (payload_of p) ≡ (Ok tt)) → umf_verdict p ≡ (Ok tt)
  -- what is found by its number stands in the packet where it is said to, and is whole
  pub stands : (k : Described) (n : ℕ) (p : List ℕ) (q : ℕ) (d : List ℕ) → umf_verdict p ≡ (Ok tt) → nth_in k n p ≡ found q d
      → (21 ≤ q) × (q + length d ≤ 21 + length_of p) × (d ≡ take (length d) (drop q p)) × (least_of k ≤ length d)
  -- of a UMF that is not opened the preamble alone counts, and whether the packet holds what it states
  pub closed : (p q : List ℕ) → (flag_of p ≡ 3 → ⊥) → flag_of q ≡ flag_of p → length_of q ≡ length_of p → 21 + length_of p ≤ length p → 21 + length_of p ≤ length q
      → (umf_verdict p ≡ (Ok tt)) × (umf_verdict q ≡ (Ok tt)) × ((k : Described) (n : ℕ) → (nth_in k n p ≡ missing) × (nth_in k n q ≡ missing))
