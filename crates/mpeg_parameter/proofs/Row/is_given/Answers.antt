use borrow.Author.Tests.{le-leb, lt-leb}
use Rattle.mpeg_parameter.specs.Parameters.{given}
use Rattle.mpeg_parameter.proofs.Row.is_given.Goals as goal

pub returns-then-self-n : goal.returns-then-self-n
unfolding given
returns-then-self-n c = simp (c.in-Some.is, le-leb _ _ c.if-self-n.true)

pub returns-else-self-n : goal.returns-else-self-n
unfolding given
returns-else-self-n c = simp (c.in-Some.is, lt-leb _ _ c.if-self-n.false)

pub returns-in-None : goal.returns-in-None
unfolding given
returns-in-None c = simp c.in-None.is
