use mathlib.Core.Path.{sym, ◌∙◌}
use Rattle.mpeg_parameter.specs.Parameters.{number_of}
use Rattle.mpeg_parameter.proofs.Row.number_of.Goals as goal

pub returns-in-Some : goal.returns-in-Some
unfolding number_of
returns-in-Some c = rw c.in-Some.is (simp (sym c.is_given.ensures ∙ c.if-is_given.true))

pub returns-in_default : goal.returns-in_default
unfolding number_of
returns-in_default c = rw c.in-Some.is (simp (sym c.is_given.ensures ∙ c.if-is_given.false))

pub returns-in_default-2 : goal.returns-in_default-2
unfolding number_of
returns-in_default-2 c = simp c.in_default.is
