use Rattle.plate.proofs.Tests.{tests}
use Rattle.map_given.specs.Faults.{is_text}
use Rattle.map_items.specs.Judge.{has}
use Rattle.map_given.proofs.is_text.Goals as goal

pub returns-in-64 : goal.returns-in-64
unfolding is_text has
returns-in-64 c = grind (tests)

pub returns-in_default : goal.returns-in_default
unfolding is_text has
returns-in_default c = grind (tests)
