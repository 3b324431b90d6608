-- A stream that is refused with 29 (02, §12): it stops at a map with the wrong form, behind the packets that passed, and the place is the map's own with that map's offset added. The other way, what a map in a stream is refused with the stream is. And which numbers a check can give. Proved in proofs/WrongForm.antt.
use Rattle.std.specs.Prelude.{ℕ, ◌+◌, ◌≤◌, ◌≡◌, List, ◌⊎◌, take, drop, Ok, Err}
use Rattle.plate.specs.Plate.{refusal, placed, number}
use Rattle.plate.specs.declared.Refusal.{Refusal}
use Rattle.plate.specs.declared.Fault.TheVariants as fault
use Rattle.packet.specs.Packet.{type_map, header_at}
use Rattle.map.specs.Map.{map_verdict}
use Rattle.stream.specs.Stream.{stops, packets, check_of}
use Rattle.stream.specs.Lacking.{bytes_of}

-- the numbers that a check can be refused with: of a header, of content, of the order, and 29
abbrev pub CheckNumber : ℕ → Type 0
CheckNumber n = ((1 ≤ n) × (n ≤ 5)) ⊎ (((7 ≤ n) × (n ≤ 12)) ⊎ (((14 ≤ n) × (n ≤ 15)) ⊎ (((17 ≤ n) × (n ≤ 22)) ⊎ (n ≡ 29))))

-- r is what the stream is refused with, its number 29
pub record StreamWrongForm (s : List ℕ) (r : Refusal) : Type 0 where
  pub ends : (packets s).end ≡ stops r
  -- a whole map packet, of so many bytes, stands behind the last packet that passed
  pub len : ℕ
  pub header : header_at s (bytes_of (packets s).list) ≡ Ok (record { packet_type = type_map; len = len })
  -- the map's own refusal, its place counted from the packet's start
  pub own : Refusal
  pub verdict : map_verdict (take len (drop (bytes_of (packets s).list) s)) ≡ Err own
  pub number : number own ≡ 29
  pub place : r.place ≡ own.place + bytes_of (packets s).list

-- the other way: where the bytes before a whole map have no fault but that they run out, the stream is refused with what the map is refused with, its offset added, whatever stands behind it
abbrev pub MapThere : (List ℕ → Refusal → Type 0) → Type 0
MapThere Refuses =
    (s : List ℕ) (at len : ℕ) → check_of (take at s) ≡ Err (refusal fault.StreamEnd at) → header_at s at ≡ Ok (record { packet_type = type_map; len = len })
    → (own : Refusal) → map_verdict (take len (drop at s)) ≡ Err own → Refuses s (placed own (own.place + at))

-- whatever the map that opens a stream is refused with, its header being whole, the stream is
abbrev pub FirstMap : (List ℕ → Refusal → Type 0) → Type 0
FirstMap Refuses =
    (s : List ℕ) (len : ℕ) (r : Refusal) → header_at s 0 ≡ Ok (record { packet_type = type_map; len = len }) → map_verdict (take len s) ≡ Err r → Refuses s r
