use mathlib.Core.Path.{◌≡◌}
use Prim.Native.Nat.{◌+◌, ◌*◌, ◌-◌, ◌/◌}
use lib.ListN.{length}
use Rattle.map_writer.specs.Inside.{slots_size}
use Rattle.map_given.specs.Given.{slots}
use Rattle.map_writer.proofs.slots_size.Given as goal

abbrev pub invariant-loop-i : goal.invariant-loop-i
invariant-loop-i l = slots_size (slots (length l.words / 3) l.words 0 l.tag) ≡ l.total + slots_size (slots (length l.words / 3 - l.i) l.words (3 * l.i) (l.tag + l.i))
