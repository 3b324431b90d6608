use Prim.Native.Nat.{◌+◌, ◌*◌, ◌-◌, ◌/◌}
use lib.ListN.{length}
use lib.Seq.{sets}
use Rattle.map_given.specs.Given.{slots}
use Rattle.map_items.specs.Items.{items_bytes}
use Rattle.map_writer.specs.Write.{items_of}
use Rattle.map_writer.proofs.Puts.{SlotsLeft}
use Rattle.map_writer.proofs.put_slots.Given as goal

abbrev pub invariant-loop-i : goal.invariant-loop-i
invariant-loop-i l = SlotsLeft (sets l.initial.out l.pos (items_bytes (items_of l.text (slots (length l.words / 3) l.words 0 l.tag)))) l.text l.words (length l.initial.out) l.out l.to (3 * l.i) (l.tag + l.i) (length l.words / 3 - l.i)
