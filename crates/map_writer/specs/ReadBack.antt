-- The round trip of a written map (01, "Writers"): it is read at its place as what was given, and the bytes before and after it are as they were. Proved in proofs/RoundTrip.antt.
use Rattle.std.specs.Prelude.{ℕ, ◌+◌, ◌≡◌, List, length, take, drop, Ok}
use Rattle.packet.specs.Packet.{type_map, header_at}
use Rattle.map_tracks.specs.Tracks.{kth_of}
use Rattle.map.specs.Map.{material_says, listed_in, map_at, track_at, on_kth}
use Rattle.map.specs.View.{view_in}
use Rattle.map_writer.specs.ViewGiven.{view_given}
use Rattle.map_writer.specs.Write.{map_packet}

-- of a buffer, what was given, the length answered, and the buffer afterwards: the map is read back whole, and all else is as it was
pub record ReadBack (out : List ℕ) (at : ℕ) (text ms ts : List ℕ) (n : ℕ) (now : List ℕ) : Type 0 where
  -- the packet stands at its place, and the answer is its length
  pub long : n ≡ length (map_packet text ms ts)
  pub stands : take n (drop at now) ≡ map_packet text ms ts
  pub header : header_at now at ≡ Ok (record { packet_type = type_map; len = n })
  -- the reader's answer there: count, material, and the records by their number
  pub read : map_at now at ≡ Ok (record { count = length (listed_in (map_packet text ms ts)); material = material_says (map_packet text ms ts) })
  pub track : (k : ℕ) → track_at now at k ≡ on_kth (kth_of k (listed_in (map_packet text ms ts)))
  -- it shows what was given: the count of tracks, the material's items, and every record in order, with the bytes at the places
  pub view : view_in (map_packet text ms ts) ≡ view_given text ms ts
  pub before : take at now ≡ take at out
  pub after : drop (at + n) now ≡ drop (at + n) out
  pub lengths : length now ≡ length out
