use native.Mathlib.Omega.{arith}
use mathlib.Core.Path.{sym}
use Rattle.packet.proofs.Laws.{whole, typed}
use Rattle.locator.proofs.position.Goals as goal

pub overflow_add-at : goal.overflow_add-at
overflow_add-at c = let g = whole _ _ _ (typed _ _ _ _ (sym c.in_ok-p.ensures)).0 in omega arith

pub slice_bounds-position_in-end : goal.slice_bounds-position_in-end
slice_bounds-position_in-end c = let g = whole _ _ _ (typed _ _ _ _ (sym c.in_ok-p.ensures)).0 in omega arith
