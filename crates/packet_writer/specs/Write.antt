-- Writing a packet (RDD 14, clause 6 and Table 2; 01, "Writers"): its header, the room for it, and what the buffer then holds.
use Rattle.std.specs.Prelude.{ℕ, ◌+◌, ◌-◌, List, [], ◌∷◌, ◌++◌, length, take, drop, ltb, Result, Ok, Err}
use Rattle.plate.specs.Choice.{pick}
use Rattle.plate.specs.Plate.{refusal}
use Rattle.number.specs.Number.{be_bytes}
use Rattle.plate.specs.declared.Refusal.{Refusal}
use Rattle.plate.specs.declared.Fault.{Fault}
use Rattle.plate.specs.declared.Fault.TheVariants as fault

-- clause 6: the leader 00 00 00 00 01, the type, the length with the header, four reserved bytes, the trailer E1 E2; most significant byte first
unfoldable pub header_of : ℕ → ℕ → List ℕ
header_of packet_type len = be_bytes 5 0x0000000001 ++ (packet_type ∷ []) ++ be_bytes 4 len ++ be_bytes 4 0 ++ be_bytes 2 0xE1E2

-- the place of a writer's refusals is 0
abbrev pub refused : Fault → Result ℕ Refusal
refused f = Err (refusal f 0)

-- 13 where the buffer has fewer bytes from the place on than the packet, which has 16 at least, so at a place beyond the buffer too; else the packet's length
abbrev pub if_room : List ℕ → ℕ → ℕ → Result ℕ Refusal
if_room out at len = pick (ltb (length out - at) len) (refused fault.Room) (Ok len)

-- a buffer with some bytes written over what stood at a place, where there is room for them
abbrev pub over : List ℕ → ℕ → List ℕ → List ℕ
over out at bytes = take at out ++ bytes ++ drop (at + length bytes) out

-- a packet's bytes stand at the place if the answer is a length, which is theirs; a refused call changes nothing
abbrev pub buffer_after : List ℕ → ℕ → List ℕ → Result ℕ Refusal → List ℕ
buffer_after out at bytes (Ok n) = over out at bytes
buffer_after out at bytes (Err r) = out
