-- What C sees of each answer (01, "The control program is in C"; 02, §4): number 0, place 0, lacking 0 and the values; or a number of the plate, its place, the bytes lacking with 5, else 0, and zeros for the values.
use Rattle.std.specs.Prelude.{ℕ, Result, Ok, Err}
use Rattle.plate.specs.Plate.{number}
use Rattle.control.specs.declared.GxfPacket.{GxfPacket}
use Rattle.for_c.specs.declared.GxfValue.{GxfValue}
use Rattle.packet.specs.declared.Packet.{Packet}
use Rattle.plate.specs.declared.Refusal.{Refusal}
use Rattle.for_c.specs.ForC.{value_for_c}

-- a whole packet's type and length
unfoldable pub header_for_c : Result Packet Refusal → GxfPacket
header_for_c (Ok p) = record { number = 0; place = 0; lacking = 0; packet_type = p.packet_type; len = p.len }
header_for_c (Err r) = record { number = number r; place = r.place; lacking = r.lacking; packet_type = 0; len = 0 }

-- an offset in the stream, of a byte that need not begin a packet (clause 7.2.2)
unfoldable pub position_for_c : Result ℕ Refusal → GxfValue
position_for_c = value_for_c

-- the offset of a packet
unfoldable pub seek_for_c : Result ℕ Refusal → GxfValue
seek_for_c = value_for_c
