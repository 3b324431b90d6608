use native.Mathlib.Omega.{arith}
use Rattle.number.proofs.Laws.{le_lt}
use Rattle.umf.proofs.word.Goals as goal

pub returns : goal.returns
returns c = let a = c.args in (c.le4.ensures, omega (arith, c.le4.ensures, le_lt a.y.now c.type_inv.y a.at 4))
