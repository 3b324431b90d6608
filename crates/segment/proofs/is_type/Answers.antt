use Rattle.plate.proofs.Tests.{tests}
use Rattle.segment.specs.Segment.{is_type}
use Rattle.segment.proofs.is_type.Goals as goal

pub returns-in-1-to-11 : goal.returns-in-1-to-11
unfolding is_type
returns-in-1-to-11 c = search tests

pub returns-in_default : goal.returns-in_default
unfolding is_type
returns-in_default c = search tests

pub returns-in_default-2 : goal.returns-in_default-2
unfolding is_type
returns-in_default-2 c = search tests
