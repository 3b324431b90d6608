use borrow.Author.Rules.{rules}
use native.Mathlib.Omega.{arith}
use Rattle.map_items.proofs.Lookup.{start, on_done, on_short, on_over, on_found, on_next}
use Rattle.map_items.proofs.found.Goals as goal

pub loop-at-init : goal.loop-at-init
loop-at-init c = (search rules, start _ _ _)

pub returns-then-left-lt2 : goal.returns-then-left-lt2
returns-then-left-lt2 c = on_short _ _ _ _ c.loop-at.invariant.1 c.loop-at-test.true c.if-left-lt2.true

pub returns-then-left-n : goal.returns-then-left-n
returns-then-left-n c = on_over _ _ _ _ c.loop-at.invariant.1 c.if-left-lt2.false _ c.wide-n.ensures c.if-left-n.true

pub returns-then-s-at : goal.returns-then-s-at
returns-then-s-at c = on_found _ _ _ _ c.loop-at.invariant.1 c.if-left-lt2.false _ c.wide-n.ensures c.if-left-n.false c.if-s-at.true

pub loop-at-preserved : goal.loop-at-preserved
loop-at-preserved c = (omega arith, on_next _ _ _ _ c.loop-at.invariant.1 c.if-left-lt2.false _ c.wide-n.ensures c.if-left-n.false c.if-s-at.false)

pub returns : goal.returns
returns c = on_done _ _ _ _ c.loop-at.invariant.1 c.loop-at-test.false
