use borrow.Author.Rules.{rules}
use mathlib.Core.Path.{sym, ap}
use Rattle.map_items.specs.Find.{part_of}
use Rattle.umf.proofs.Turns.{rest}
use Rattle.umf.proofs.Laws.{nth_past, walked_in, at_more, at_end}
use Rattle.umf.proofs.nth_part.Goals as goal

pub returns-then-count-n : goal.returns-then-count-n
returns-then-count-n c = ap part_of (sym (nth_past _ _ _ _ _ _ c.if-count-n.true))

pub slice_bounds-next-count : goal.slice_bounds-next-count
slice_bounds-next-count c = search (rules, walked_in _ _ _ 0 _ c.if-count-n.false _ c.walk-w.ensures)

pub slice_bounds-next-start : goal.slice_bounds-next-start
slice_bounds-next-start c = search (rules, walked_in _ _ _ 0 _ c.if-count-n.false _ c.walk-w.ensures)

pub overflow_add-result : goal.overflow_add-result
overflow_add-result c = search (rules, walked_in _ _ _ 0 _ c.if-count-n.false _ c.walk-w.ensures)

pub returns-in-More : goal.returns-in-More
returns-in-More c = let w = walked_in _ _ _ 0 _ c.if-count-n.false _ c.walk-w.ensures in
    at_more _ _ _ _ _ c.if-count-n.false _ c.walk-w.ensures _ (rw (rest _ _ w) at (sym c.in-More.ensures))

pub returns-in-Used : goal.returns-in-Used
returns-in-Used c = let w = walked_in _ _ _ 0 _ c.if-count-n.false _ c.walk-w.ensures in
    at_end _ _ _ _ _ c.if-count-n.false _ c.walk-w.ensures (rw (rest _ _ w) at c.next.ensures) c.in-Used.is
