use native.Mathlib.Omega.{arith}
use Prim.Native.Nat.{◌+◌}
use Rattle.number.proofs.Laws.{be_lt}
use Rattle.packet.proofs.sized.Goals as goal

pub overflow_cast-len : goal.overflow_cast-len
overflow_cast-len c = omega (arith, c.be4-len.ensures, be_lt _ c.type_inv.s (c.args.at + 6) 4)
