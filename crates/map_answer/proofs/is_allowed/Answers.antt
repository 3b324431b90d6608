use Rattle.plate.proofs.Tests.{tests}
use Rattle.map_items.specs.Judge.{has}
use Rattle.map_answer.specs.Answer.{allowed}
use Rattle.map_answer.proofs.is_allowed.Goals as goal

pub returns-in-80-1-to-8 : goal.returns-in-80-1-to-8
unfolding allowed has
returns-in-80-1-to-8 c = search tests

pub returns-in-81-eq1 : goal.returns-in-81-eq1
unfolding allowed has
returns-in-81-eq1 c = search tests

pub returns-in-81-eq1-2 : goal.returns-in-81-eq1-2
unfolding allowed has
returns-in-81-eq1-2 c = search tests

pub returns-in-82-eq1 : goal.returns-in-82-eq1
unfolding allowed has
returns-in-82-eq1 c = search tests

pub returns-in_default : goal.returns-in_default
unfolding allowed has
returns-in_default c = search tests

pub returns-in_default-2 : goal.returns-in_default-2
unfolding allowed has
returns-in_default-2 c = search tests

pub returns-in_default-3 : goal.returns-in_default-3
unfolding allowed has
returns-in_default-3 c = search tests

pub returns-in_default-4 : goal.returns-in_default-4
unfolding allowed has
returns-in_default-4 c = search tests

pub returns-in_default-5 : goal.returns-in_default-5
unfolding allowed has
returns-in_default-5 c = search tests

pub returns-in_default-6 : goal.returns-in_default-6
unfolding allowed has
returns-in_default-6 c = search tests

pub returns-in_default-7 : goal.returns-in_default-7
unfolding allowed has
returns-in_default-7 c = search tests
