use Prim.Native.Nat.{◌-◌}
use mathlib.Core.Path.{◌≡◌}
use lib.Seq.{sets}
use Rattle.number.specs.Number.{be_bytes}
use Rattle.number.proofs.put_be.Given as goal

abbrev pub invariant-loop-i : goal.invariant-loop-i
invariant-loop-i l = sets l.initial.out l.at (be_bytes l.n l.v) ≡ sets l.out l.at (be_bytes (l.i - l.at) l.rest)
