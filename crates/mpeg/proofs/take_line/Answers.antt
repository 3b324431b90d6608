use mathlib.Core.Path.{sym, ◌∙◌, refl}
use Rattle.mpeg.specs.Read.{taken}
use Rattle.mpeg.proofs.take_line.Goals as goal

pub returns-in_default : goal.returns-in_default
unfolding taken
returns-in_default c = rw c.in_default.is (refl, refl)

pub returns-in_default-amount : goal.returns-in_default-amount
unfolding taken
returns-in_default-amount c = rw c.in-Some.is (simp (sym c.amount.ensures ∙ c.in_default-amount.is, c.refuse.ensures) (refl, refl))

pub returns-then-is_some : goal.returns-then-is_some
unfolding taken
returns-then-is_some c = rw c.in-Some.is (simp (sym c.amount.ensures ∙ c.in-Some-amount.is, sym c.is_some.ensures ∙ c.if-is_some.true, c.refuse-then-is_some.ensures) (refl, refl))

pub returns : goal.returns
unfolding taken
returns c = rw c.in-Some.is (simp (sym c.amount.ensures ∙ c.in-Some-amount.is, sym c.is_some.ensures ∙ c.if-is_some.false) (refl, refl))
