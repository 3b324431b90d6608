use borrow.Author.Rules.{rules}
use mathlib.Core.Path.{sym}
use Rattle.umf.proofs.Turns.{rest, on_all, on_used, on_over, fits, on_more}
use Rattle.umf.proofs.Described.walk.Goals as goal

pub overflow_add-at : goal.overflow_add-at
overflow_add-at c = let l = c.loop-i.invariant in
    let e = rw (rest _ _ l.inside) at (sym c.in-More.ensures) in
    search (rules, fits _ _ _ _ _ l c.loop-i-test.true _ e)

pub loop-i-preserved : goal.loop-i-preserved
loop-i-preserved c = let l = c.loop-i.invariant in
    let e = rw (rest _ _ l.inside) at (sym c.in-More.ensures) in
    on_more _ _ _ _ _ l c.loop-i-test.true _ e

pub returns-in-Used : goal.returns-in-Used
returns-in-Used c = let l = c.loop-i.invariant in
    let e = rw (rest _ _ l.inside) at (sym c.in-Used.ensures) in
    on_used _ _ _ _ _ l c.loop-i-test.true e

pub returns-in-Over : goal.returns-in-Over
returns-in-Over c = let l = c.loop-i.invariant in
    let e = rw (rest _ _ l.inside) at (sym c.in-Over.ensures) in
    on_over _ _ _ _ _ l c.loop-i-test.true e

pub returns : goal.returns
returns c = on_all _ _ _ _ _ c.loop-i.invariant c.loop-i-test.false
