use Rattle.map_answer.specs.Inside.{part_bytes}
use Rattle.map_answer.proofs.part_bytes.Goals as goal

pub returns-in-Some : goal.returns-in-Some
unfolding part_bytes
returns-in-Some c = rw c.in-Some.is

pub returns-in-None : goal.returns-in-None
unfolding part_bytes
returns-in-None c = rw c.in-None.is
