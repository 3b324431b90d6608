use mathlib.Core.Path.{sym, refl, ◌∙◌}
use Rattle.mpeg_parameter.specs.Parameters.{lacking}
use Rattle.mpeg_parameter.proofs.Laws.{lacking_more, lacking_from}
use Rattle.mpeg_parameter.proofs.is_lacking.Goals as goal

pub loop-k-init : goal.loop-k-init
unfolding lacking
loop-k-init c = refl

pub returns-then-is_wanting : goal.returns-then-is_wanting
returns-then-is_wanting c = sym (lacking_from _ _ _ (rw c.row_at.ensures at (sym c.is_wanting.ensures ∙ c.if-is_wanting.true)) c.loop-k-test.true)

pub loop-k-preserved : goal.loop-k-preserved
loop-k-preserved c = lacking_more _ _ c.loop-k.invariant (rw c.row_at.ensures at (sym c.is_wanting.ensures ∙ c.if-is_wanting.false))
