-- What serves the code alone: the bytes of a part of a section, and that they lie in it.
use Rattle.std.specs.Prelude.{ℕ, ◌+◌, ◌-◌, ◌≤◌, List, [], length, Option, Some, None}
use Rattle.plate.specs.Part.{part}
use Rattle.map_items.specs.declared.Part.{Part}

-- a part, by its place in the packet, lies in the section s that begins at place base
abbrev pub InSection : List ℕ → ℕ → Option Part → Type 0
InSection s base (Some p) = (base ≤ p.at) × (p.at + p.len ≤ base + length s)
InSection s base None = Unit {0}

unfoldable pub part_bytes : List ℕ → ℕ → Option Part → List ℕ
part_bytes s base (Some p) = part (p.at - base) (p.at - base + p.len) s
part_bytes s base None = []
