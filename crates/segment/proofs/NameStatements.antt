-- What a name is, byte by byte (RDD 14, Table 19 and the STRING of Table 1): so that `name_from`, which walks, need not be believed.
use Rattle.std.specs.Prelude.{ℕ, ◌<◌, ◌≤◌, ◌≡◌, List, length, get_or, Some, None}
use Rattle.segment.specs.Segment.{name_from}

-- the first 00 of s is at m, and all before it is ASCII
pub record EndsAt (s : List ℕ) (m : ℕ) : Type 0 where
  pub inside : m < length s
  pub zero : get_or s m 0 ≡ 0
  pub text : (i : ℕ) → i < m → (1 ≤ get_or s i 0) × (get_or s i 0 ≤ 0x7F)

-- bytes that begin at place q
pub record NameSays (q : ℕ) (s : List ℕ) : Type 0 where
  -- a name that is shown begins there and is what stands before the first 00
  pub shown : (a m : ℕ) → name_from q 0 s ≡ Some (record { at = a; len = m }) → (a ≡ q) × EndsAt s m
  -- wherever there is one it is shown, an empty one too
  pub there : (m : ℕ) → EndsAt s m → name_from q 0 s ≡ Some (record { at = q; len = m })
  -- so it is absent just where there is none
  pub absent : name_from q 0 s ≡ None → (m : ℕ) → EndsAt s m → ⊥
