-- The field locator table (RDD 14, clause 7.2 and Table 14; 01, "FLT and media"): numbers of four bytes, least significant first.
use Rattle.std.specs.Prelude.{ℕ, ◌+◌, ◌-◌, ◌*◌, ◌/◌, List, length, take, drop, ltb, eqb, Result, Ok, Err}
use Rattle.plate.specs.Choice.{pick}
use Rattle.plate.specs.Plate.{refusal}
use Rattle.number.specs.Number.{le}
use Rattle.packet.specs.Packet.{packet_at, type_flt}
use Rattle.locator.specs.declared.Locator.{Locator}
use Rattle.packet.specs.declared.Packet.{Packet}
use Rattle.plate.specs.declared.Refusal.{Refusal}
use Rattle.plate.specs.declared.Fault.{Fault}
use Rattle.plate.specs.declared.Fault.TheVariants as fault

-- of 8, 14 and 15 the place is 16
abbrev pub no_table : Fault → Result Locator Refusal
no_table f = Err (refusal f 16)

-- of a packet's bytes, the payload from 16 on: fields per entry, count, and count entries; what follows them is ignored
unfoldable pub table_of : List ℕ → Result Locator Refusal
table_of p =
    pick (ltb (length p - 16) 8) (no_table fault.Overhang)
    (pick (ltb 1000 (le p 20 4)) (no_table fault.LocatorCount)
    (pick (eqb (le p 16 4) 0) (no_table fault.LocatorStep)
    (pick (ltb (length p - 16) (8 + 4 * le p 20 4)) (no_table fault.Overhang)
    (Ok (record { step = le p 16 4; count = le p 20 4 })))))

-- the entry for a distance in fields from the field of entry 0, the first field plus one step (Table 14, n = 1): rounded down
abbrev pub entry_for : ℕ → Locator → ℕ
entry_for d t = d / t.step

-- entry n, in units of 1,024 bytes; 16 where it is at or past the count
abbrev pub entry_at : List ℕ → ℕ → ℕ → Result ℕ Refusal
entry_at p count n = pick (ltb n count) (Ok (1024 * le p (24 + 4 * n) 4)) (Err (refusal fault.NotThere 0))

abbrev pub by_table : List ℕ → ℕ → Result Locator Refusal → Result ℕ Refusal
by_table p d (Err r) = Err r
by_table p d (Ok t) = entry_at p t.count (entry_for d t)

unfoldable pub position_of : List ℕ → ℕ → Result ℕ Refusal
position_of p d = by_table p d (table_of p)

-- the same of the packet at a position of lent bytes, which is to be an FLT
abbrev pub table_in : List ℕ → ℕ → Result Packet Refusal → Result Locator Refusal
table_in s at (Err r) = Err r
table_in s at (Ok p) = table_of (take p.len (drop at s))

unfoldable pub table_at : List ℕ → ℕ → Result Locator Refusal
table_at s at = table_in s at (packet_at s at type_flt)

abbrev pub position_in : List ℕ → ℕ → ℕ → Result Packet Refusal → Result ℕ Refusal
position_in s at d (Err r) = Err r
position_in s at d (Ok p) = position_of (take p.len (drop at s)) d

unfoldable pub position_at : List ℕ → ℕ → ℕ → Result ℕ Refusal
position_at s at d = position_in s at d (packet_at s at type_flt)
