use Rattle.plate.proofs.Tests.{tests}
use Rattle.order.specs.Order.{unmapped}
use Rattle.order.proofs.is_unmapped.Goals as goal

pub returns-then-media_type-listed : goal.returns-then-media_type-listed
unfolding unmapped
returns-then-media_type-listed c = search (tests, c.is_known.ensures)

pub returns-else-media_type-listed : goal.returns-else-media_type-listed
unfolding unmapped
returns-else-media_type-listed c = search tests

pub returns-else-packet_type-eq-MEDIA : goal.returns-else-packet_type-eq-MEDIA
unfolding unmapped
returns-else-packet_type-eq-MEDIA c = search tests
