use borrow.Author.Tests.{eq-eqb, ne_eqb}
use Rattle.stream.specs.Stream.{ran_out}
use Rattle.stream.proofs.ran_out.Goals as goal

pub returns-then-count-eq0 : goal.returns-then-count-eq0
unfolding ran_out
returns-then-count-eq0 c = rw (eq-eqb _ _ c.if-count-eq0.true, c.refuse.ensures)

pub returns : goal.returns
unfolding ran_out
returns c = rw (ne_eqb _ _ c.if-count-eq0.false, c.refuse-2.ensures)
