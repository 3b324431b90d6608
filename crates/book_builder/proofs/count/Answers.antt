use native.Mathlib.Omega.{arith}
use mathlib.Core.Path.{ap}
use Rattle.piece.specs.declared.Piece.{Piece}
use Rattle.book_builder.proofs.Laws.{count_begin, count_out, count_next, can_see, is_told, one_here}
use Rattle.book_builder.proofs.count.Goals as goal

pub loop-at-init : goal.loop-at-init
loop-at-init c = (omega arith, omega arith, count_begin _ c.requires)

pub seen_at-x-requires : goal.seen_at-x-requires
seen_at-x-requires c = can_see _ _ _ _ c.loop-at.invariant.2.left c.loop-at-test.true

pub overflow_add-at : goal.overflow_add-at
overflow_add-at c = let l = c.loop-at in let w = is_told _ _ _ _ l.invariant.2.left c.loop-at-test.true in omega (arith, w.cut.within, ap (λ (y : Piece). y.len) c.seen_at-x.ensures)

pub overflow_add-n : goal.overflow_add-n
overflow_add-n c = omega (arith, c.records_of-n.ensures, one_here c.seen_at-x.result)

pub loop-at-smaller : goal.loop-at-smaller
loop-at-smaller c = let l = c.loop-at in let w = is_told _ _ _ _ l.invariant.2.left c.loop-at-test.true in omega (arith, w.cut.within, w.cut.least, ap (λ (y : Piece). y.len) c.seen_at-x.ensures)

pub loop-at-preserved : goal.loop-at-preserved
loop-at-preserved c = let l = c.loop-at in
    let h = c.loop-at-test.true in
    let w = is_told _ _ _ _ l.invariant.2.left h in
    let e = c.seen_at-x.ensures in
    let m = ap (λ (y : Piece). y.len) e in (
      omega (arith, w.cut.within, m),
      omega (arith, w.cut.least, m, c.records_of-n.ensures, one_here c.seen_at-x.result),
      rw m (count_next _ l.at l.n l.invariant.2 h _ (rw e at c.records_of-n.ensures)),
    )

pub returns : goal.returns
returns c = count_out _ _ _ c.loop-at.invariant.2 c.loop-at-test.false
