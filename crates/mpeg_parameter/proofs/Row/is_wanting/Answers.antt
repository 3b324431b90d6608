use mathlib.Core.Bool.{Bool, true, false, not}
use mathlib.Core.Path.{◌≡◌, refl}
use Rattle.plate.specs.Choice.{pick}
use Rattle.mpeg_parameter.specs.Parameters.{wanting}
use Rattle.mpeg_parameter.proofs.Row.is_wanting.Goals as goal

opposite : (b : Bool) → not b ≡ pick b false true
opposite true = refl
opposite false = refl

pub returns-then-self : goal.returns-then-self
unfolding wanting
returns-then-self c = simp (c.if-self.true, c.is_given.ensures) (opposite _)

pub returns-else-self : goal.returns-else-self
unfolding wanting
returns-else-self c = simp c.if-self.false
