use Prim.Native.Nat.{◌+◌, ◌-◌}
use mathlib.Core.Path.{◌≡◌}
use lib.Seq.{sets}
use Rattle.number.specs.Number.{le_bytes}
use Rattle.number.proofs.put_le.Given as goal

abbrev pub invariant-loop-i : goal.invariant-loop-i
invariant-loop-i l = sets l.initial.out l.at (le_bytes l.n l.v) ≡ sets l.out l.i (le_bytes (l.at + l.n - l.i) l.rest)
