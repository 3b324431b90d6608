use native.Mathlib.Omega.{arith}
use native.Mathlib.Nat.{sub_self}
use Prim.Native.Nat.{◌-◌}
use mathlib.Core.Path.{refl}
use Rattle.number.specs.Number.{be}
use Rattle.number.proofs.Laws.{be_lt, be_again, room}
use Rattle.number.proofs.be_at.Goals as goal

pub loop-i-init : goal.loop-i-init
unfolding be
loop-i-init c = rw sub_self

pub overflow_mul-v : goal.overflow_mul-v
overflow_mul-v c = let l = c.loop-i in let a = c.args in
    omega (arith, room (l.i - a.at) (omega arith) (be_lt a.s.now c.type_inv.s a.at (l.i - a.at)))

pub overflow_add-v : goal.overflow_add-v
overflow_add-v c = let l = c.loop-i in let a = c.args in let g = c.type_inv.s in
    omega (arith, room (l.i - a.at) (omega arith) (be_lt a.s.now g a.at (l.i - a.at)), g l.i)

pub loop-i-preserved : goal.loop-i-preserved
loop-i-preserved c = be_again _ _ _ _ _ (omega arith) c.loop-i.invariant refl
