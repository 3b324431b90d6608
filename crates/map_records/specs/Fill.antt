-- Lent track records (01, Map, "Reading fills lent track records, one struct for each listed track in map order").
use Rattle.std.specs.Prelude.{ℕ, ◌+◌, ◌≡◌, List, [], ◌++◌, map as each, length, drop, ltb, Result, Ok, Err}
use Rattle.plate.specs.Choice.{pick}
use Rattle.plate.specs.Plate.{refusal}
use Rattle.packet.specs.Packet.{packet_at, type_map}
use Rattle.map_answer.specs.declared.Track.{Track}
use Rattle.map.specs.declared.MapSays.{MapSays}
use Rattle.packet.specs.declared.Packet.{Packet}
use Rattle.plate.specs.declared.Refusal.{Refusal}
use Rattle.plate.specs.declared.Fault.TheVariants as fault
use Rattle.map_tracks.specs.Tracks.{record_of}
use Rattle.map.specs.Map.{listed_in, map_at}
use Rattle.plate.specs.Part.{part}

-- the records of the listed tracks of the map packet at a position, in map order, by lengths alone: on a map that the reader accepts, its records
abbrev pub records_from : List ℕ → ℕ → Result Packet Refusal → List Track
records_from s at (Err r) = []
records_from s at (Ok w) = each record_of (listed_in (part at (at + w.len) s))

unfoldable pub records_at : List ℕ → ℕ → List Track
records_at s at = records_from s at (packet_at s at type_map)

-- all other faults first; then 13, exactly when fewer records are lent than tracks are listed
abbrev pub with_room : ℕ → Result MapSays Refusal → Result MapSays Refusal
with_room room (Err r) = Err r
with_room room (Ok m) = pick (ltb room m.count) (Err (refusal fault.Room 0)) (Ok m)

unfoldable pub answer_for : List ℕ → ℕ → ℕ → Result MapSays Refusal
answer_for s at room = with_room room (map_at s at)

-- the lent records ys after an answer: a refused call leaves every one; else the listed tracks' come first, and those past the last stay
unfoldable pub lent_after : List Track → List Track → Result MapSays Refusal → List Track
lent_after ts ys (Err r) = ys
lent_after ts ys (Ok m) = ts ++ drop (length ts) ys

-- a call on the records ys gave the answer r and left the records zs
unfoldable pub Filled : List Track → List ℕ → ℕ → Result MapSays Refusal → List Track → Type 0
Filled ys s at r zs = (r ≡ answer_for s at (length ys)) × (zs ≡ lent_after (records_at s at) ys (answer_for s at (length ys)))
