-- A packet that has been checked, by its bytes alone (RDD 14, clause 6 and Table 21): what may be read of it, and what it says to the rules of streams.
use Rattle.std.specs.Prelude.{◌≡◌, ℕ, ◌+◌, ◌≤◌, List, length, get_or, eqb}
use Rattle.packet.specs.Packet.{type_media}
use Rattle.plate.specs.Choice.{pick}
use Rattle.number.specs.Number.{be}
use Rattle.piece.specs.declared.Piece.{Piece}

-- at an offset where a packet stands: it has a header (clause 6: not 1), and a media packet has a preamble (Table 21: not 8)
pub record Seeable (s : List ℕ) (at : ℕ) : Type 0 where
  pub header : at + 16 ≤ length s
  pub preamble : get_or s (at + 5) 0 ≡ type_media → at + 32 ≤ length s

-- what its bytes say: type and length of clause 6, and of a media packet media type, ID and field number of Table 21
unfoldable pub seen_at : List ℕ → ℕ → Piece
seen_at s at =
    pick (eqb (get_or s (at + 5) 0) type_media)
    (record { packet_type = type_media; len = be s (at + 6) 4; media_type = get_or s (at + 16) 0; track = get_or s (at + 17) 0; field = be s (at + 18) 4 })
    (record { packet_type = get_or s (at + 5) 0; len = be s (at + 6) 4; media_type = 0; track = 0; field = 0 })
