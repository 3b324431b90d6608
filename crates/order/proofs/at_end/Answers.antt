use Rattle.plate.proofs.Tests.{off, on}
use Rattle.order.specs.Order.{ending}
use Rattle.order.proofs.at_end.Goals as goal

pub returns-then-more : goal.returns-then-more
unfolding ending
returns-then-more c = rw (c.if-more.true, c.refuse.ensures)

pub returns-then-not-p : goal.returns-then-not-p
unfolding ending
returns-then-not-p c = rw (c.if-more.false, off _ c.if-not-p.true, c.refuse-then-not-p.ensures)

pub returns : goal.returns
unfolding ending
returns c = rw (c.if-more.false, on _ c.if-not-p.false)
