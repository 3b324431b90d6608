use Prim.Native.Nat.{◌≤◌, ◌-◌, ◌+◌}
use mathlib.Core.Path.{◌≡◌}
use lib.ListN.{length}
use Rattle.mpeg_scan.specs.Scan.{run_end, alnum}
use Rattle.mpeg_scan.proofs.alnum_end.Given as goal

-- none so far is of another kind, and the bytes passed were there
abbrev pub invariant-loop-i : goal.invariant-loop-i
invariant-loop-i l = (run_end alnum l.s l.at ≡ run_end alnum l.s l.i) × (l.i ≤ l.at + (length l.s - l.at))
