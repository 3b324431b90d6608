use native.Mathlib.Omega.{arith}
use Prim.Native.Nat.{◌+◌, ◌*◌, ◌/◌}
use mathlib.Core.Path.{sym}
use Rattle.number.proofs.Laws.{le_lt}
use Rattle.locator.proofs.Laws.{taken}
use Rattle.locator.proofs.position_in.Goals as goal

pub nonzero_div-n : goal.nonzero_div-n
nonzero_div-n c = let g = taken _ _ (sym c.in_ok-t.ensures) in omega arith

pub overflow_mul-n : goal.overflow_mul-n
overflow_mul-n c = let g = taken _ _ (sym c.in_ok-t.ensures) in omega arith

pub overflow_add-n : goal.overflow_add-n
overflow_add-n c = let g = taken _ _ (sym c.in_ok-t.ensures) in omega arith

pub le4-entry-requires : goal.le4-entry-requires
le4-entry-requires c = let g = taken _ _ (sym c.in_ok-t.ensures) in omega arith

pub overflow_mul-result : goal.overflow_mul-result
overflow_mul-result c = omega (arith, c.le4-entry.ensures, le_lt _ c.type_inv.p (24 + 4 * (c.args.distance / c.in_ok-t.t.step)) 4)
