use borrow.Author.Tests.{lt-ltb, le-ltb}
use Rattle.map_given.specs.Inside.{flag_fault}
use Rattle.map_given.proofs.id_fault.Goals as goal

pub returns-then-id-gt63 : goal.returns-then-id-gt63
unfolding flag_fault
returns-then-id-gt63 c = simp (lt-ltb _ _ c.if-id-gt63.true)

pub returns-then-used-id : goal.returns-then-used-id
unfolding flag_fault
returns-then-used-id c = simp (le-ltb _ _ c.if-id-gt63.false, c.if-used-id.true)

pub returns-else-used-id : goal.returns-else-used-id
unfolding flag_fault
returns-else-used-id c = simp (le-ltb _ _ c.if-id-gt63.false, c.if-used-id.false)
