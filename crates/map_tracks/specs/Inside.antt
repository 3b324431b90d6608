-- What serves the code and the proofs alone: the set of IDs seen, how many bytes tracks take, and both ways to ask for a track in one.
use Rattle.std.specs.Prelude.{ℕ, ◌-◌, ◌≤◌, ◌<◌, ◌+◌, ◌/◌, ◌%◌, ◌^◌, ◌≡◌, Bool, true, false, length, eqb, List, [], ◌∷◌, Option, Some, None}
use Rattle.plate.specs.Choice.{pick}
use Rattle.map_tracks.specs.declared.Seen.{Seen}
use Rattle.map_answer.specs.declared.Track.{Track}
use Rattle.map_tracks.specs.Tracks.{Description, Placed, record_of}

-- whether an ID byte, C0 to FF, is in the set: ID k is bit k of the number
unfoldable pub holds : Seen → ℕ → Bool
holds s id = eqb (s.ids / 2 ^ (id - 0xC0) % 2) 1

-- the set with no ID, and a set with one ID more
abbrev pub Empty : Seen → Type 0
Empty r = (k : ℕ) → 0xC0 ≤ k → k < 256 → holds r k ≡ false

abbrev pub Adds : Seen → ℕ → Seen → Type 0
Adds s id r = (k : ℕ) → 0xC0 ≤ k → k < 256 → holds r k ≡ pick (eqb k id) true (holds s k)

-- the bytes that some tracks take
unfoldable pub descriptions_size : List Description → ℕ
descriptions_size [] = 0
descriptions_size (d ∷ ds) = 4 + length d.items + descriptions_size ds

-- both in one, for the code alone: what a track is asked for by, its bare ID or how many stand before it, and the record of the first for which that is wanted
unfoldable pub key_of : Bool → ℕ → ℕ → ℕ
key_of named before id = pick named (id - 0xC0) before

unfoldable pub keyed_of : Bool → ℕ → ℕ → List Placed → Option Track
keyed_of named before wanted [] = None
keyed_of named before wanted (x ∷ xs) = pick (eqb (key_of named before x.track.id) wanted) (Some (record_of x)) (keyed_of named (before + 1) wanted xs)
