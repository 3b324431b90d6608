use native.Mathlib.Omega.{arith}
use mathlib.Core.Path.{sym}
use Rattle.packet.proofs.Laws.{whole, typed}
use Rattle.media.proofs.read.Goals as goal

pub overflow_add-at : goal.overflow_add-at
overflow_add-at c = let g = whole _ _ _ (typed _ _ _ _ (sym c.in_ok-p.ensures)).0 in omega arith

pub slice_bounds-preamble-end : goal.slice_bounds-preamble-end
slice_bounds-preamble-end c = let g = whole _ _ _ (typed _ _ _ _ (sym c.in_ok-p.ensures)).0 in omega arith
