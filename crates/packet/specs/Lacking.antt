-- What the bytes lacking say (02, §4): of a header that is refused, and of the same bytes with more behind them.
use Rattle.std.specs.Prelude.{ℕ, ◌+◌, ◌-◌, ◌<◌, ◌≤◌, ◌≡◌, List, ◌++◌, length, get_or, take, Ok, Err}
use Rattle.plate.specs.Plate.{torn, number}
use Rattle.plate.specs.declared.Refusal.{Refusal}
use Rattle.packet.specs.Packet.{stated_at, header_at}
use Rattle.packet.specs.declared.Packet.{Packet}

-- r is what the header at a position is refused with
pub record Lacking (s : List ℕ) (at : ℕ) (r : Refusal) : Type 0 where
  pub it : header_at s at ≡ Err r
  -- no number but 5 has any
  pub none : (number r ≡ 5 → ⊥) → r.lacking ≡ 0
  -- with 5 it is the length that the header states less the bytes left, and one at least
  pub exact : number r ≡ 5 → (r ≡ torn at (stated_at s at - (length s - at))) × (1 ≤ r.lacking)
  -- so, of bytes, 4,294,967,276 at most: of the longest packet the header alone is there
  pub most : ((i : ℕ) → get_or s i 0 < 256) → r.lacking ≤ 4294967276
  -- with so many bytes more, or further ones, whatever they are, the packet is whole, and as long as it states
  pub enough : number r ≡ 5 → (t : List ℕ) → r.lacking ≤ length t → header_at (s ++ t) at ≡ Ok (record { packet_type = get_or s (at + 5) 0; len = stated_at s at })
  -- with fewer it is 5 there again, and the rest lacks: one byte where one fewer has come
  pub fewer : number r ≡ 5 → (t : List ℕ) → length t < r.lacking → header_at (s ++ t) at ≡ Err (torn at (r.lacking - length t))

-- the other way: of a whole packet whose bytes end at k of its own, behind its header, what was cut off lacks
abbrev pub CutOff : Type 0
CutOff = (s : List ℕ) (at : ℕ) (p : Packet) → header_at s at ≡ Ok p → (k : ℕ) → 16 ≤ k → k < p.len → header_at (take (at + k) s) at ≡ Err (torn at (p.len - k))

-- r is what a reader refuses the packet at a position with: a 5 is the header's own, bytes lacking and all, and no bytes lack with another number
pub record PassedOn (s : List ℕ) (at : ℕ) (r : Refusal) : Type 0 where
  pub same : number r ≡ 5 → header_at s at ≡ Err r
  pub none : (number r ≡ 5 → ⊥) → r.lacking ≡ 0
