use borrow.Author.Rules.{rules}
use native.Mathlib.Omega.{arith}
use Rattle.map_items.proofs.Lookup.{on_done, on_found, whole_start, two_there, all_there, whole_next}
use Rattle.map_items.proofs.found_in_whole.Goals as goal

pub loop-at-init : goal.loop-at-init
loop-at-init c = (search rules, whole_start _ _ _ c.requires.1)

pub bounds-s-at : goal.bounds-s-at
bounds-s-at c = let w = two_there _ _ _ _ c.loop-at.invariant.1 c.loop-at-test.true in omega arith

pub overflow_add-result-then-s-at : goal.overflow_add-result-then-s-at
overflow_add-result-then-s-at c = let w = two_there _ _ _ _ c.loop-at.invariant.1 c.loop-at-test.true in omega arith

pub returns-then-s-at : goal.returns-then-s-at
returns-then-s-at c = let w = two_there _ _ _ _ c.loop-at.invariant.1 c.loop-at-test.true in
    on_found _ _ _ _ c.loop-at.invariant.1.left w _ c.wide-n.ensures (all_there _ _ _ _ c.loop-at.invariant.1 c.loop-at-test.true _ c.wide-n.ensures) c.if-s-at.true

pub overflow_add-at-in-loop-at : goal.overflow_add-at-in-loop-at
overflow_add-at-in-loop-at c = let w = two_there _ _ _ _ c.loop-at.invariant.1 c.loop-at-test.true in omega arith

pub overflow_add-at-in-loop-at-2 : goal.overflow_add-at-in-loop-at-2
overflow_add-at-in-loop-at-2 c = let w = two_there _ _ _ _ c.loop-at.invariant.1 c.loop-at-test.true in
    let v = all_there _ _ _ _ c.loop-at.invariant.1 c.loop-at-test.true _ c.wide-n.ensures in
    omega arith

pub loop-at-preserved : goal.loop-at-preserved
loop-at-preserved c = let w = two_there _ _ _ _ c.loop-at.invariant.1 c.loop-at-test.true in
    let v = all_there _ _ _ _ c.loop-at.invariant.1 c.loop-at-test.true _ c.wide-n.ensures in
    (omega arith, whole_next _ _ _ _ c.loop-at.invariant.1 c.loop-at-test.true _ c.wide-n.ensures c.if-s-at.false)

pub returns : goal.returns
returns c = on_done _ _ _ _ c.loop-at.invariant.1.left c.loop-at-test.false
