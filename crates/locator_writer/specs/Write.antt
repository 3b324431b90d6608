-- Writing a field locator table (RDD 14, clause 6 and Table 2, clause 7.2 and Table 14; 01, "Writers" and "FLT and media"):
-- the bytes of the packet, the answer, and what the buffer then holds.
use Rattle.std.specs.Prelude.{ℕ, ◌+◌, ◌*◌, List, [], ◌∷◌, ◌++◌, Bool, true, false, length, ltb, eqb, Result}
use Rattle.packet.specs.Packet.{type_flt}
use Rattle.plate.specs.Choice.{pick}
use Rattle.number.specs.Number.{le_bytes}
use Rattle.packet_writer.specs.Write.{header_of, refused, if_room, buffer_after}
use Rattle.plate.specs.declared.Refusal.{Refusal}
use Rattle.plate.specs.declared.Fault.TheVariants as fault

-- Table 14: the entries, four bytes each, least significant first
unfoldable pub entry_bytes : List ℕ → List ℕ
entry_bytes [] = []
entry_bytes (n ∷ ns) = le_bytes 4 n ++ entry_bytes ns

-- header, fields per entry, count and entries: a multiple of 4, so that no padding is wanted (clause 5.1)
abbrev pub length_of : List ℕ → ℕ
length_of ns = 24 + 4 * length ns

-- clause 7.2: an FLT packet, its type FC; no unused entries
unfoldable pub locator_packet : ℕ → List ℕ → List ℕ
locator_packet step ns = header_of type_flt (length_of ns) ++ le_bytes 4 step ++ le_bytes 4 (length ns) ++ entry_bytes ns

-- every number fits four bytes
unfoldable pub all_fit : List ℕ → Bool
all_fit [] = true
all_fit (n ∷ ns) = pick (ltb 0xFFFFFFFF n) false (all_fit ns)

-- else 24: a step of 0 or over 32 bits, more than 1,000 entries, an offset over 32 bits
unfoldable pub may_write : ℕ → List ℕ → Bool
may_write step ns = pick (eqb step 0) false (pick (ltb 0xFFFFFFFF step) false (pick (ltb 1000 (length ns)) false (all_fit ns)))

-- 24, then 13; else the packet's length
unfoldable pub locator_answer : List ℕ → ℕ → ℕ → List ℕ → Result ℕ Refusal
locator_answer out at step ns =
    pick (may_write step ns) (if_room out at (length_of ns)) (refused fault.Barred)

-- what the buffer then holds
unfoldable pub locator_written_in : List ℕ → ℕ → ℕ → List ℕ → List ℕ
locator_written_in out at step ns = buffer_after out at (locator_packet step ns) (locator_answer out at step ns)
