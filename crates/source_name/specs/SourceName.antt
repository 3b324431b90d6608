-- The source device's name of a segment (RDD 14, Table 19; 02, §1): the part of the lent bytes that holds it, without the 00.
use Rattle.std.specs.Prelude.{ℕ, ◌+◌, List, [], take, drop, Option, Some, None, Result, Ok, Err}
use Rattle.segment.specs.Segment.{segment_at}
use Rattle.map_items.specs.declared.Part.{Part}
use Rattle.plate.specs.declared.Refusal.{Refusal}
use Rattle.segment.specs.declared.Segment.{Segment}

-- a name, or none; its place counts from the packet's first byte
abbrev pub name_in : Result Segment Refusal → Result (Option Part) Refusal
name_in (Err r) = Err r
name_in (Ok g) = Ok g.name

-- of segment n of the UMF packet at a position
unfoldable pub name_at : List ℕ → ℕ → ℕ → Result (Option Part) Refusal
name_at s at n = name_in (segment_at s at n)

-- the part's bytes; none where it is absent or refused
unfoldable pub name_bytes : List ℕ → ℕ → Result (Option Part) Refusal → List ℕ
name_bytes s at (Ok (Some p)) = take p.len (drop (at + p.at) s)
name_bytes s at (Ok None) = []
name_bytes s at (Err r) = []

-- where it begins in the memory that the lent slice is, a block and an offset; where there is none, at the slice's start
unfoldable pub place_in : ℕ × ℕ → ℕ → Result (Option Part) Refusal → ℕ × ℕ
place_in m at (Ok (Some p)) = (m.0, at + p.at + m.1)
place_in m at (Ok None) = m
place_in m at (Err r) = m
