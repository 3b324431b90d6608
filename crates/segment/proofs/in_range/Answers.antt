use lib.Ieee as Ieee
use Rattle.segment.specs.Segment.{in_range}
use Rattle.segment.proofs.in_range.Goals as goal
use Rattle.segment.proofs.in_range.Goals.{else-x-via-then-x+else-x-2, else-x-via-else-x}

pub returns-then-x-2 : goal.returns-then-x-2
unfolding in_range Ieee.of_bits
returns-then-x-2 c = let a = c.if-x.true in let b = c.if-x-2.true in simp (a, b)

pub returns : goal.returns
unfolding in_range Ieee.of_bits
returns c = elim c.else-x.branch [ else-x-via-then-x+else-x-2 w ↦ simp (w.if-x.true, w.if-x-2.false) | else-x-via-else-x w ↦ simp w.if-x.false ]
