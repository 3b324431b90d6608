use native.Mathlib.Omega.{arith}
use mathlib.Core.Path.{◌∙◌}
use native.Mathlib.Nat.{add-sub_cancel_left}
use Rattle.umf.specs.Umf.{payload_of}
use Rattle.umf.proofs.Laws.{on_short, on_closed, on_opened}
use Rattle.umf.proofs.verdict_of.Goals as goal

pub returns-then-p-lt21 : goal.returns-then-p-lt21
returns-then-p-lt21 c = c.refused.ensures ∙ on_short _ (omega (arith, c.if-p-lt21.true))

pub returns-then-p-n : goal.returns-then-p-n
returns-then-p-n c = c.refused-then-p-n.ensures ∙ on_short _ (omega (arith, c.if-p-n.true, c.be4-n.ensures))

pub returns-then-p-ne3 : goal.returns-then-p-ne3
returns-then-p-ne3 c = on_closed _ (omega (arith, c.if-p-n.false, c.if-p-lt21.false, c.be4-n.ensures)) c.if-p-ne3.true

pub returns : goal.returns
unfolding payload_of
returns c = rw (add-sub_cancel_left, c.be4-n.ensures) at c.payload_verdict.ensures ∙ on_opened _ (omega (arith, c.if-p-n.false, c.if-p-lt21.false, c.be4-n.ensures)) c.if-p-ne3.false
