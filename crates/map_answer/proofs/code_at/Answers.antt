use mathlib.Core.Path.{sym, ◌∙◌}
use Rattle.map_answer.specs.Answer.{code_of}
use Rattle.map_answer.proofs.code_at.Goals as goal

pub returns-in-Some : goal.returns-in-Some
returns-in-Some c = rw (sym c.value_at.ensures ∙ c.in-Some.is) c.code_of.ensures

pub returns-in-None : goal.returns-in-None
unfolding code_of
returns-in-None c = rw (sym c.value_at.ensures ∙ c.in-None.is)
