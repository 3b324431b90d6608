use native.Mathlib.Omega.{arith}
use Prim.Native.Nat.{◌<◌}
use mathlib.Core.Path.{sym, ◌∙◌}
use Rattle.mpeg.proofs.Turns.{next_in, unknown_label}
use Rattle.mpeg.proofs.Judging.{skip_more}
use Rattle.mpeg.proofs.skip.Goals as goal

pub loop-at-smaller : goal.loop-at-smaller
loop-at-smaller c =
    let w : c.loop-at.at < c.until-e.result = rw c.until-e.ensures (next_in _ _ _ _ (sym c.label_at.ensures ∙ c.in-Some.is)) in
    omega arith

pub loop-at-preserved : goal.loop-at-preserved
loop-at-preserved c =
    let u = c.until-e.ensures in
    rw u (skip_more _ _ c.loop-at-test.true _ _ c.loop-at.invariant (unknown_label _ _ (sym c.label_at.ensures ∙ c.in-Some.is) (sym c.is_some.ensures ∙ c.if-is_some.false)) (rw u at c.if-s-e.false))
