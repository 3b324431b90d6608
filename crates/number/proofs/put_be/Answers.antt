use native.Mathlib.Omega.{arith}
use Prim.Native.Nat.{◌-◌}
use mathlib.Core.Path.{◌≡◌, sym, ◌∙◌}
use Rattle.number.specs.Number.{be_bytes}
use Rattle.number.proofs.Stores.{from_right}
use Rattle.number.proofs.put_be.Goals as goal

pub loop-i-preserved : goal.loop-i-preserved
loop-i-preserved c = c.loop-i.invariant ∙ from_right _ _ _ _ c.loop-i-test.true

pub returns : goal.returns
unfolding be_bytes
returns c = let e : c.loop-i.i - c.args.at ≡ 0 = omega arith in sym (c.loop-i.invariant ∙ rw e)
