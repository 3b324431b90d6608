use Rattle.plate.proofs.Tests.{tests}
use Rattle.map_items.specs.Judge.{has}
use Rattle.segment.specs.Segment.{rates_of}
use Rattle.segment.proofs.is_rate.Goals as goal

pub returns-in-2 : goal.returns-in-2
unfolding rates_of has
returns-in-2 c = search tests

pub returns-in-392822 : goal.returns-in-392822
unfolding rates_of has
returns-in-392822 c = search tests

pub returns-in_default-matches : goal.returns-in_default-matches
unfolding rates_of has
returns-in_default-matches c = search tests

pub returns-in_default-matches-2 : goal.returns-in_default-matches-2
unfolding rates_of has
returns-in_default-matches-2 c = search tests

pub returns-in_default-matches-2-2 : goal.returns-in_default-matches-2-2
unfolding rates_of has
returns-in_default-matches-2-2 c = search tests

pub returns-in-60 : goal.returns-in-60
unfolding rates_of has
returns-in-60 c = search tests

pub returns-in-60-2 : goal.returns-in-60-2
unfolding rates_of has
returns-in-60-2 c = search tests

pub returns-else-is_type : goal.returns-else-is_type
unfolding rates_of has
returns-else-is_type c = search tests
