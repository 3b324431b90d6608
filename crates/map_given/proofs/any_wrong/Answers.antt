use native.Mathlib.Omega.{arith}
use mathlib.Core.Path.{sym, ◌∙◌}
use Rattle.map_given.proofs.Laws.{any_wrong_more, any_wrong_out}
use Rattle.map_given.proofs.any_wrong.Goals as goal

pub returns-then-is_wrong : goal.returns-then-is_wrong
returns-then-is_wrong c = let i = c.loop-track.invariant in let s = c.in-Some.ensures.steps in
    sym (i.1 ∙ rw s.1.0 (any_wrong_more c.in-Some.track.now _ _ (s.1.1 ∙ i.0) (sym c.is_wrong.ensures ∙ c.if-is_wrong.true)))

pub loop-track-preserved : goal.loop-track-preserved
loop-track-preserved c = let i = c.loop-track.invariant in let s = c.in-Some.ensures.steps in
    (s.0 ∙ i.0, i.1 ∙ rw s.1.0 (any_wrong_more c.in-Some.track.now _ _ (s.1.1 ∙ i.0) (sym c.is_wrong.ensures ∙ c.if-is_wrong.false)))

pub returns : goal.returns
returns c = let i = c.loop-track.invariant in let s = c.in-None.ensures.steps in
    sym (i.1 ∙ any_wrong_out _ (omega (arith, s.1.0, i.0)))
