use Rattle.map_aspect.specs.Aspect.{aspect_for}
use borrow.Author.Tests.{ne_eqb}
use mathlib.Core.Path.{refl}
use native.Mathlib.Omega.{arith}
use Rattle.map_aspect.proofs.of_number.Goals as goal

pub returns-in-0 : goal.returns-in-0
unfolding aspect_for
returns-in-0 c = rw c.in-0.is refl

pub returns-in-1 : goal.returns-in-1
unfolding aspect_for
returns-in-1 c = rw c.in-1.is refl

pub returns-in_default : goal.returns-in_default
unfolding aspect_for
returns-in_default c = let n = c.args.n in simp (ne_eqb n 0 (λ e. omega arith), ne_eqb n 1 (λ e. omega arith))
