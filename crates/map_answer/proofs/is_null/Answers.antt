use Rattle.map_answer.specs.Answer.{is_null}
use Rattle.map_answer.proofs.is_null.Goals as goal

pub returns-in-Some : goal.returns-in-Some
unfolding is_null
returns-in-Some c = simp c.in-Some.is

pub returns-in-None : goal.returns-in-None
unfolding is_null
returns-in-None c = simp c.in-None.is
