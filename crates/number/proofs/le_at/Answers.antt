use native.Mathlib.Omega.{arith}
use native.Mathlib.Nat.{sub_self, add-sub_cancel_left}
use Prim.Native.Nat.{◌+◌, ◌-◌}
use mathlib.Core.Path.{◌≡◌, refl, ◌∙◌}
use Rattle.number.specs.Number.{le}
use Rattle.number.proofs.Laws.{le_lt, le_again, room}
use Rattle.number.proofs.le_at.Goals as goal

pub loop-i-init : goal.loop-i-init
unfolding le
loop-i-init c = (omega arith, rw sub_self)

pub overflow_mul-v : goal.overflow_mul-v
overflow_mul-v c = let l = c.loop-i in let a = c.args in let m = a.at + a.n - l.i in
    omega (arith, room m (omega arith) (le_lt a.s.now c.type_inv.s l.i m))

pub overflow_add-v : goal.overflow_add-v
overflow_add-v c = let l = c.loop-i in let a = c.args in let m = a.at + a.n - l.i in let g = c.type_inv.s in
    omega (arith, room m (omega arith) (le_lt a.s.now g l.i m), g (l.i - 1))

pub loop-i-preserved : goal.loop-i-preserved
loop-i-preserved c = (omega arith, le_again _ _ _ _ _ (omega arith) (omega arith) c.loop-i.invariant.1 refl)

pub returns : goal.returns
returns c = let e : c.loop-i.i ≡ c.args.at = omega arith in c.loop-i.invariant.1 ∙ rw (e, add-sub_cancel_left)
