use Rattle.plate.proofs.Tests.{tests}
use Rattle.order.specs.Order.{either_type}
use Rattle.order.proofs.or_type.Goals as goal

pub returns-then-flag : goal.returns-then-flag
unfolding either_type
returns-then-flag c = search tests

pub returns-else-flag : goal.returns-else-flag
unfolding either_type
returns-else-flag c = search tests
