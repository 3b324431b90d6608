-- A piece of a stream (01, "Stream, seek, book"): what one packet is to the rules of streams.
use Rattle.std.specs.Prelude.{ℕ, ◌+◌, Bool, true, false, List, length, take, drop, eqb, Result, Ok, Err, ⊤}
use Rattle.plate.specs.Choice.{pick}
use Rattle.plate.specs.Plate.{refusal, placed}
use Rattle.plate.specs.declared.Refusal.{Refusal}
use Rattle.locator.specs.declared.Locator.{Locator}
use Rattle.media.specs.declared.Media.{Media}
use Rattle.packet.specs.declared.Packet.{Packet}
use Rattle.piece.specs.declared.Piece.{Piece}
use Rattle.plate.specs.declared.Fault.TheVariants as fault
use Rattle.packet.specs.Packet.{header_at, type_flt, type_map, type_media}
use Rattle.map.specs.Map.{map_verdict}
use Rattle.locator.specs.Locator.{table_of}
use Rattle.media.specs.Media.{preamble_of}

-- a check adds the packet's offset to places inside the packet; the place of 12 in media, asked at 0, becomes the packet's own
abbrev pub moved : ℕ → Refusal → Refusal
moved at r = placed r (r.place + at)

-- a packet of a type and a length, of which the rules ask no more
abbrev pub plain_piece : ℕ → ℕ → Result Piece Refusal
plain_piece packet_type len = Ok (record { packet_type = packet_type; len = len; media_type = 0; track = 0; field = 0 })

abbrev pub of_map : ℕ → ℕ → Result ⊤ Refusal → Result Piece Refusal
of_map at len (Ok _) = plain_piece type_map len
of_map at len (Err r) = Err (moved at r)

abbrev pub of_locator : ℕ → ℕ → Result Locator Refusal → Result Piece Refusal
of_locator at len (Ok t) = plain_piece type_flt len
of_locator at len (Err r) = Err (moved at r)

abbrev pub of_media : ℕ → ℕ → Result Media Refusal → Result Piece Refusal
of_media at len (Ok m) = Ok (record { packet_type = type_media; len = len; media_type = m.media_type; track = m.track; field = m.field })
of_media at len (Err r) = Err (moved at r)

-- maps whole, the FLT's step, count and room, the media preamble; EOS, UMF and reserved packets are not opened
unfoldable pub content_of : List ℕ → ℕ → ℕ → Result Piece Refusal
content_of p at packet_type =
    pick (eqb packet_type type_media) (of_media at (length p) (preamble_of p 0))
    (pick (eqb packet_type type_map) (of_map at (length p) (map_verdict p))
    (pick (eqb packet_type type_flt) (of_locator at (length p) (table_of p))
    (plain_piece packet_type (length p))))

-- 17: the first packet is a map
unfoldable pub opens : Bool → ℕ → Bool
opens true packet_type = eqb packet_type type_map
opens false packet_type = true

-- header faults, 17, content faults
abbrev pub after_header : List ℕ → ℕ → Bool → Result Packet Refusal → Result Piece Refusal
after_header s at first (Err r) = Err r
after_header s at first (Ok w) = pick (opens first w.packet_type) (content_of (take w.len (drop at s)) at w.packet_type) (Err (refusal fault.NoMapFirst at))

unfoldable pub piece_at : List ℕ → ℕ → Bool → Result Piece Refusal
piece_at s at first = after_header s at first (header_at s at)
