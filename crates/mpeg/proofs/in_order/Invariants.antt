use Prim.Native.Nat.{◌-◌, ◌≤◌}
use mathlib.Core.Path.{◌≡◌}
use lib.ListN.{length}
use Rattle.mpeg.specs.Lines.{lines_at}
use Rattle.mpeg.specs.Read.{judge_lines}
use Rattle.mpeg.proofs.in_order.Given as goal

abbrev pub invariant-loop-at : goal.invariant-loop-at
invariant-loop-at l = (l.at ≤ length l.s) × (judge_lines l.initial.slots (lines_at l.s 0) ≡ judge_lines l.slots (lines_at l.s l.at))

abbrev pub decreases-loop-at : goal.decreases-loop-at
decreases-loop-at l = length l.s - l.at
