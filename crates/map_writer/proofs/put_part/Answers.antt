use native.Mathlib.Omega.{arith}
use mathlib.Core.Path.{◌∙◌}
use Prim.Native.Nat.{◌+◌}
use mathlib.Core.List.{[], ◌∷◌}
use Rattle.number.proofs.Stores.{sets_append}
use Rattle.map_writer.proofs.Puts.{part_set}
use Rattle.map_writer.proofs.put_part.Goals as goal

pub returns : goal.returns
returns c = let a = c.args in
    rw c.copy_from_slice.ensures.after
    (part_set c.put_two.new.out a.part.now (a.pos + 2) _ (omega arith) (omega (arith, c.put_two.auto.out)) ∙ rw c.put_two.ensures (sets_append (a.tag ∷ a.size ∷ []) a.out.now a.pos a.part.now))
