use Rattle.plate.proofs.Tests.{tests}
use Rattle.map_answer.specs.Answer.{is_progressive}
use Rattle.map_answer.proofs.is_progressive.Goals as goal

pub returns-in-Is : goal.returns-in-Is
unfolding is_progressive
returns-in-Is c = simp c.in-Is.is

pub returns-in_default : goal.returns-in_default
unfolding is_progressive
returns-in_default c = search tests
