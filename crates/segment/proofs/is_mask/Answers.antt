use Rattle.plate.proofs.Tests.{tests}
use Rattle.segment.specs.Segment.{is_mask}
use Rattle.segment.proofs.is_mask.Goals as goal

pub returns-in_default : goal.returns-in_default
unfolding is_mask
returns-in_default c = search tests

pub returns-in_default-2 : goal.returns-in_default-2
unfolding is_mask
returns-in_default-2 c = search tests

pub returns-in-0 : goal.returns-in-0
unfolding is_mask
returns-in-0 c = search tests

pub returns-in-0-2 : goal.returns-in-0-2
unfolding is_mask
returns-in-0-2 c = search tests

pub returns-else-is_in-2 : goal.returns-else-is_in-2
unfolding is_mask
returns-else-is_in-2 c = search tests
