use Rattle.plate.proofs.Tests.{tests}
use Rattle.order.specs.Order.{overdue}
use Rattle.order.proofs.is_overdue.Goals as goal

pub returns-then-packet_type-ne-MAP : goal.returns-then-packet_type-ne-MAP
unfolding overdue
returns-then-packet_type-ne-MAP c = search tests

pub returns-else-packet_type-ne-MAP : goal.returns-else-packet_type-ne-MAP
unfolding overdue
returns-else-packet_type-ne-MAP c = search tests
