use Rattle.plate.proofs.Tests.{tests}
use Rattle.order.specs.Order.{misplaced}
use Rattle.order.proofs.is_misplaced.Goals as goal

pub returns-then-eos_due : goal.returns-then-eos_due
unfolding misplaced
returns-then-eos_due c = search tests

pub returns-then-flt : goal.returns-then-flt
unfolding misplaced
returns-then-flt c = search tests

pub returns-else-flt : goal.returns-else-flt
unfolding misplaced
returns-else-flt c = search tests
