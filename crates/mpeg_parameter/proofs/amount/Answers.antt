use Rattle.mpeg_parameter.specs.Parameters.{amount_of}
use Rattle.mpeg_parameter.proofs.amount.Goals as goal

pub returns-then-row_at : goal.returns-then-row_at
unfolding amount_of
returns-then-row_at c = simp (rw c.row_at.ensures at c.if-row_at.true, c.rate.ensures)

pub returns : goal.returns
unfolding amount_of
returns c = simp (rw c.row_at.ensures at c.if-row_at.false, c.whole.ensures)
