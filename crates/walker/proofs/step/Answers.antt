use native.Mathlib.Omega.{arith}
use mathlib.Core.Path.{sym}
use Rattle.packet.proofs.Laws.{whole}
use Rattle.walker.proofs.step.Goals as goal

pub overflow_add-w : goal.overflow_add-w
overflow_add-w c = let g = whole _ _ _ (sym c.in-Ok.ensures) in record { fits = omega arith }
