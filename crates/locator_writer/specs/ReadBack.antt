-- The round trip of a written locator table (01, "Writers"): it is read at its place as what was given, and the bytes before and after it are as they were. Proved in proofs/RoundTrip.antt.
use Rattle.std.specs.Prelude.{ℕ, ◌+◌, ◌*◌, ◌/◌, ◌<◌, ◌≤◌, ◌≡◌, List, length, get_or, take, drop, Ok, Err}
use Rattle.plate.specs.Plate.{refusal}
use Rattle.packet.specs.Packet.{type_flt, header_at}
use Rattle.locator_writer.specs.Write.{locator_packet}
use Rattle.locator.specs.Locator.{table_at, position_at}
use Rattle.plate.specs.declared.Fault.TheVariants as fault

-- of a buffer, what was asked, the length answered, and the buffer afterwards: the table is read back whole, and all else is as it was
pub record ReadBack (out : List ℕ) (at step : ℕ) (ns : List ℕ) (n : ℕ) (now : List ℕ) : Type 0 where
  pub long : n ≡ 24 + 4 * length ns
  -- the packet stands at its place
  pub stands : take n (drop at now) ≡ locator_packet step ns
  pub header : header_at now at ≡ Ok (record { packet_type = type_flt; len = n })
  pub table : table_at now at ≡ Ok (record { step = step; count = length ns })
  -- every distance within the table gives the position of its entry, 1,024 times the offset
  pub position : (d : ℕ) → d / step < length ns → position_at now at d ≡ Ok (1024 * get_or ns (d / step) 0)
  -- the first field of entry k
  pub entry : (k : ℕ) → k < length ns → position_at now at (k * step) ≡ Ok (1024 * get_or ns k 0)
  pub past : (d : ℕ) → length ns ≤ d / step → position_at now at d ≡ Err (refusal fault.NotThere 0)
  pub before : take at now ≡ take at out
  pub after : drop (at + n) now ≡ drop (at + n) out
  pub lengths : length now ≡ length out
