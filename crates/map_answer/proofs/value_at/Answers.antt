use native.Mathlib.Omega.{arith}
use Prim.Native.Nat.{◌-◌}
use mathlib.Core.Path.{sym, ◌∙◌}
use Rattle.number.proofs.Laws.{be_lt}
use Rattle.map_answer.proofs.Laws.{stands, is_value, no_value, nothing_value}
use Rattle.map_answer.proofs.value_at.Goals as goal

pub returns-in_err-item : goal.returns-in_err-item
returns-in_err-item c = rw c.from_residual.ensures (nothing_value _ (sym c.in_err-item.ensures))

pub overflow_sub-item : goal.overflow_sub-item
overflow_sub-item c = let w = stands _ _ _ _ _ (sym c.in_ok-item.ensures) in omega arith

pub be_at-requires : goal.be_at-requires
be_at-requires c = let w = stands _ _ _ _ _ (sym c.in_ok-item.ensures) in omega arith

pub overflow_cast-result : goal.overflow_cast-result
overflow_cast-result c = let a = c.args in
    omega (arith, c.be_at.ensures, be_lt a.s.now c.type_inv.s (c.in_ok-item.item.at - a.base) 4)

pub returns-then-item-ne4 : goal.returns-then-item-ne4
returns-then-item-ne4 c = no_value _ _ _ _ _ (sym c.in_ok-item.ensures) c.if-item-ne4.true

pub returns : goal.returns
returns c = rw c.be_at.ensures (is_value _ _ _ _ _ (sym c.in_ok-item.ensures) c.if-item-ne4.false)
