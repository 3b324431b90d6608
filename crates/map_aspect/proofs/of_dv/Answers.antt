use mathlib.Core.Path.{sym, ◌∙◌}
use Rattle.map_aspect.specs.Aspect.{dv_aspect}
use Rattle.map_aspect.proofs.Laws.{valid_some, low_bits}
use Rattle.map_aspect.proofs.of_dv.Goals as goal

pub bounds-v-0 : goal.bounds-v-0
bounds-v-0 c = valid_some c.args.v.now (sym c.is_valid.ensures ∙ c.if-is_valid.true)

pub returns-then-is_valid : goal.returns-then-is_valid
unfolding dv_aspect
returns-then-is_valid c = simp (sym c.is_valid.ensures ∙ c.if-is_valid.true, ← low_bits c.args.bit c.args.v.now c.requires) c.of_number.ensures

pub returns : goal.returns
unfolding dv_aspect
returns c = simp (sym c.is_valid.ensures ∙ c.if-is_valid.false)
