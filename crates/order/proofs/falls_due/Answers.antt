use Rattle.plate.proofs.Tests.{tests}
use Rattle.order.specs.Order.{falls}
use Rattle.order.proofs.falls_due.Goals as goal

pub returns-then-packet_type-eq-FLT : goal.returns-then-packet_type-eq-FLT
unfolding falls
returns-then-packet_type-eq-FLT c = search tests

pub returns-else-packet_type-eq-FLT : goal.returns-else-packet_type-eq-FLT
unfolding falls
returns-else-packet_type-eq-FLT c = search tests
