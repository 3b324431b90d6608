use Rattle.piece.specs.Piece.{opens}
use Rattle.piece.proofs.may_open.Goals as goal

pub returns-then-not-first : goal.returns-then-not-first
unfolding opens
returns-then-not-first c = rw c.if-not-first.true

pub returns-else-not-first : goal.returns-else-not-first
unfolding opens
returns-else-not-first c = rw c.if-not-first.false
