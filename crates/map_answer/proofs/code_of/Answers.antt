use native.Mathlib.Omega.{arith}
use Rattle.plate.proofs.Tests.{tests}
use mathlib.Core.Path.{sym, ◌∙◌}
use Rattle.map_answer.specs.Answer.{code_of}
use Rattle.map_answer.proofs.Laws.{allowed_small}
use Rattle.map_answer.proofs.code_of.Goals as goal

pub returns-in-4294967295 : goal.returns-in-4294967295
unfolding code_of
returns-in-4294967295 c = search tests

pub returns-in-4294967294 : goal.returns-in-4294967294
unfolding code_of
returns-in-4294967294 c = search tests

pub overflow_cast-result : goal.overflow_cast-result
overflow_cast-result c = let h = allowed_small _ _ (sym c.is_allowed.ensures ∙ c.if-is_allowed.true) in omega arith

pub returns-in_default : goal.returns-in_default
unfolding code_of
returns-in_default c = search (tests, sym c.is_allowed.ensures ∙ c.if-is_allowed.true)

pub returns-in_default-2 : goal.returns-in_default-2
unfolding code_of
returns-in_default-2 c = search (tests, sym c.is_allowed.ensures ∙ c.if-is_allowed.false)
