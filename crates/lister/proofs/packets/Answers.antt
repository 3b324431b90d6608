use native.Mathlib.Omega.{arith}
use mathlib.Core.Path.{sym, ◌∙◌}
use Rattle.packet.proofs.Laws.{whole}
use Rattle.lister.proofs.packets.Goals as goal

pub overflow_add-at : goal.overflow_add-at
overflow_add-at c = let g = whole _ _ _ (sym c.header.ensures ∙ c.in-Ok.is) in omega (arith, g.within)
