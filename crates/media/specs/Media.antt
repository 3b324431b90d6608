-- The media preamble (RDD 14, clause 7.4.2.1 and Table 21; 01, "FLT and media"): sixteen bytes, numbers most significant byte first.
use Rattle.std.specs.Prelude.{ℕ, ◌-◌, List, length, get_or, take, drop, ltb, Result, Ok, Err}
use Rattle.plate.specs.Choice.{pick}
use Rattle.plate.specs.Plate.{refusal}
use Rattle.number.specs.Number.{be}
use Rattle.packet.specs.Packet.{packet_at, type_media}
use Rattle.media.specs.declared.Media.{Media}
use Rattle.packet.specs.declared.Packet.{Packet}
use Rattle.plate.specs.declared.Refusal.{Refusal}
use Rattle.plate.specs.declared.Fault.TheVariants as fault

-- the offsets of Table 21, from the payload's first byte, at 16 of the packet's; the byte at 31 is reserved
abbrev pub fields_of : List ℕ → Media
fields_of p =
    record {
      media_type = get_or p 16 0;
      track = get_or p 17 0;
      field = be p 18 4;
      info = be p 22 4;
      timeline = be p 26 4;
      flags = get_or p 30 0;
    }

-- of the bytes of a packet that stands at a position of lent bytes: 8 at 16, then 12 at that position for an ID over 63, both of any media type
unfoldable pub preamble_of : List ℕ → ℕ → Result Media Refusal
preamble_of p at =
    pick (ltb (length p - 16) 16) (Err (refusal fault.Overhang 16))
    (pick (ltb 63 (get_or p 17 0)) (Err (refusal fault.TypeOrId at)) (Ok (fields_of p)))

-- the same of the packet at a position of lent bytes, which is to be a media packet
abbrev pub preamble_in : List ℕ → ℕ → Result Packet Refusal → Result Media Refusal
preamble_in s at (Err r) = Err r
preamble_in s at (Ok p) = preamble_of (take p.len (drop at s)) at

unfoldable pub preamble_at : List ℕ → ℕ → Result Media Refusal
preamble_at s at = preamble_in s at (packet_at s at type_media)
