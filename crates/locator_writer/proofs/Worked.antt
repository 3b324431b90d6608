-- Worked examples of the writer: step 40, one entry 4,194,304, and the edges of what it takes.
use mathlib.Core.Path.{◌≡◌, refl}
use mathlib.Core.List.{[], ◌∷◌}
use lib.ListN.{replicate}
use Rattle.std.specs.Prelude.{Ok}
use Rattle.number.specs.Number.{be_bytes, le_bytes}
use Rattle.locator_writer.specs.Write.{entry_bytes, locator_packet, all_fit, may_write, locator_answer, locator_written_in}
use Rattle.packet_writer.specs.Write.{header_of, refused}
use Rattle.plate.specs.declared.Fault.TheVariants as fault

-- the packet of the bench reading
pub as_read : locator_packet 40 (4194304 ∷ [])
    ≡ 0 ∷ 0 ∷ 0 ∷ 0 ∷ 1 ∷ 0xFC ∷ 0 ∷ 0 ∷ 0 ∷ 28 ∷ 0 ∷ 0 ∷ 0 ∷ 0 ∷ 0xE1 ∷ 0xE2 ∷ 40 ∷ 0 ∷ 0 ∷ 0 ∷ 1 ∷ 0 ∷ 0 ∷ 0 ∷ 0 ∷ 0 ∷ 0x40 ∷ 0 ∷ []
unfolding locator_packet header_of entry_bytes be_bytes le_bytes
as_read = refl

-- no entry, in a buffer of just that length: one byte fewer is 13, as is a place beyond the buffer
pub no_entry : locator_answer (replicate 24 7) 0 40 [] ≡ Ok 24
unfolding locator_answer may_write all_fit
no_entry = refl

pub one_byte_short : locator_answer (replicate 24 7) 1 40 [] ≡ refused fault.Room
unfolding locator_answer may_write all_fit
one_byte_short = refl

pub place_beyond : locator_answer (replicate 24 7) 18446744073709551615 40 [] ≡ refused fault.Room
unfolding locator_answer may_write all_fit
place_beyond = refl

-- 24 comes before 13: in a buffer of no byte
pub step_0 : locator_answer [] 0 0 [] ≡ refused fault.Barred
unfolding locator_answer may_write all_fit
step_0 = refl

pub step_over : locator_answer [] 0 4294967296 [] ≡ refused fault.Barred
unfolding locator_answer may_write all_fit
step_over = refl

pub offset_over : locator_answer [] 0 1 (7 ∷ 4294967296 ∷ []) ≡ refused fault.Barred
unfolding locator_answer may_write all_fit
offset_over = refl

pub entries_over : locator_answer [] 0 1 (replicate 1001 7) ≡ refused fault.Barred
unfolding locator_answer may_write all_fit
entries_over = refl

pub entries_1000 : locator_answer [] 0 4294967295 (replicate 1000 4294967295) ≡ refused fault.Room
unfolding locator_answer may_write all_fit
entries_1000 = refl

-- the byte before and the byte after stay
pub between : locator_written_in (replicate 26 7) 1 0x01020304 []
    ≡ 7 ∷ 0 ∷ 0 ∷ 0 ∷ 0 ∷ 1 ∷ 0xFC ∷ 0 ∷ 0 ∷ 0 ∷ 24 ∷ 0 ∷ 0 ∷ 0 ∷ 0 ∷ 0xE1 ∷ 0xE2 ∷ 4 ∷ 3 ∷ 2 ∷ 1 ∷ 0 ∷ 0 ∷ 0 ∷ 0 ∷ 7 ∷ []
unfolding locator_written_in locator_answer may_write all_fit locator_packet header_of entry_bytes be_bytes le_bytes
between = refl
