use native.Mathlib.Omega.{arith}
use Prim.Native.Nat.{◌+◌, ◌-◌}
use mathlib.Core.Path.{◌≡◌, sym, ◌∙◌}
use Rattle.number.specs.Number.{le_bytes}
use Rattle.number.proofs.Stores.{from_left}
use Rattle.number.proofs.put_le.Goals as goal

pub loop-i-preserved : goal.loop-i-preserved
loop-i-preserved c = c.loop-i.invariant ∙ from_left _ _ _ _ c.loop-i-test.true

pub returns : goal.returns
unfolding le_bytes
returns c = let a = c.args in let e : a.at + a.n - c.loop-i.i ≡ 0 = omega arith in sym (c.loop-i.invariant ∙ rw e)
