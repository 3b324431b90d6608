-- A map packet put together (RDD 14, 7.1; 01, "Map"): true lengths, and the fewest zeros as padding.
-- It is a packet where the reserved bytes of the header are four, each section and track is under 65,536 bytes (the laws ask that: `Fit` in proofs/Encoded.antt),
-- each value has 255 bytes at most, and each number given for a byte is one.
use Rattle.std.specs.Prelude.{ℕ, ◌+◌, ◌-◌, ◌%◌, List, [], ◌∷◌, ◌++◌, map, length, replicate}
use Rattle.number.specs.Number.{be_bytes}
use Rattle.packet.specs.Packet.{type_map}
use Rattle.map_items.specs.Items.{Item, items_bytes}
use Rattle.map_tracks.specs.Tracks as tracks
use Rattle.map_tracks.specs.Tracks.{Description}

-- a track's type byte, ID byte and items
pub record TrackParts : Type 0 where
  pub type_byte : ℕ
  pub id : ℕ
  pub items : List Item

-- a map: the four reserved bytes of its header, the reserved byte of its payload, the material items and the tracks
pub record MapParts : Type 0 where
  pub spare : List ℕ
  pub second : ℕ
  pub material : List Item
  pub tracks : List TrackParts

-- a track as its bytes are described
unfoldable pub described : TrackParts → Description
described t = record { type_byte = t.type_byte; id = t.id; items = items_bytes t.items }

-- the fewest zeros that make a multiple of 4
unfoldable pub padding : ℕ → ℕ
padding n = (4 - n % 4) % 4

-- the two sections, each behind its 16-bit length
unfoldable pub section_bytes : List ℕ → List ℕ → List ℕ
section_bytes m t = be_bytes 2 (length m) ++ (m ++ (be_bytes 2 (length t) ++ t))

-- header and preamble take 18 bytes, the two length words 4
unfoldable pub packet_length : List ℕ → List ℕ → ℕ
packet_length m t = 22 + length m + length t + padding (22 + length m + length t)

-- leader, type BC, length, reserved, trailer; version E0 and the reserved byte. With four zeros it begins with the header of packet_writer's `header_of`
unfoldable pub front : ℕ → List ℕ → ℕ → List ℕ
front len spare second = 0 ∷ 0 ∷ 0 ∷ 0 ∷ 1 ∷ type_map ∷ (be_bytes 4 len ++ (spare ++ (0xE1 ∷ 0xE2 ∷ 0xE0 ∷ second ∷ [])))

-- a packet of two sections' bytes
unfoldable pub packet_of : List ℕ → ℕ → List ℕ → List ℕ → List ℕ
packet_of spare second m t =
    front (packet_length m t) spare second ++ (section_bytes m t ++ replicate (padding (22 + length m + length t)) 0)

-- a packet of items and tracks
unfoldable pub encode : MapParts → List ℕ
encode p = packet_of p.spare p.second (items_bytes p.material) (tracks.descriptions_bytes (map described p.tracks))
