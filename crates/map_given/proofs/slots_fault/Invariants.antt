use Rattle.map_given.specs.Faults.{graver, slots_fault}
use mathlib.Core.Path.{◌≡◌}
use Prim.Native.Nat.{◌+◌, ◌*◌, ◌-◌, ◌/◌}
use lib.ListN.{length}
use Rattle.map_given.specs.Given.{slots}
use Rattle.map_given.proofs.slots_fault.Given as goal

abbrev pub invariant-loop-i : goal.invariant-loop-i
invariant-loop-i l = slots_fault l.text (slots (length l.words / 3) l.words 0 l.tag) ≡ graver l.worst (slots_fault l.text (slots (length l.words / 3 - l.i) l.words (3 * l.i) (l.tag + l.i)))
