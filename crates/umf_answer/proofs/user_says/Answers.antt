use Rattle.umf_answer.specs.Says.{user_of}
use Rattle.umf_answer.proofs.user_says.Goals as goal

pub returns : goal.returns
unfolding user_of
returns c = simp (c.word.ensures, c.owner_of.ensures, c.half.ensures, c.half-2.ensures, c.word-2.ensures)
