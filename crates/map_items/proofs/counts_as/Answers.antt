use Rattle.plate.proofs.Tests.{tests}
use Rattle.map_items.specs.Judge.{counts_as}
use Rattle.map_items.proofs.counts_as.Goals as goal

pub returns-then-tag-eq79 : goal.returns-then-tag-eq79
unfolding counts_as
returns-then-tag-eq79 c = search tests

pub returns-else-tag-eq79 : goal.returns-else-tag-eq79
unfolding counts_as
returns-else-tag-eq79 c = search tests
