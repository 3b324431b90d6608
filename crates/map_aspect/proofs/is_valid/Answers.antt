use mathlib.Core.Path.{sym, ap, ◌∙◌}
use borrow.Author.Tests.{lt-leb}
use Prim.Native.Nat.{ℕ}
use lib.Dec.{eqb}
use Rattle.map_aspect.proofs.Laws.{validity_is, short}
use Rattle.map_aspect.proofs.is_valid.Goals as goal

pub returns-then-v-ge4 : goal.returns-then-v-ge4
returns-then-v-ge4 c = ap (λ (n : ℕ). eqb n 1) (validity_is c.args.v.now (c.type_inv.v 3).fits)

pub returns-else-v-ge4 : goal.returns-else-v-ge4
returns-else-v-ge4 c = lt-leb 4 _ c.if-v-ge4.false ∙ sym (short _ c.if-v-ge4.false)
