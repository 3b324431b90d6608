use native.Mathlib.Omega.{arith}
use mathlib.Core.Path.{◌∙◌}
use lib.ListN.{length-set}
use Rattle.book_builder.proofs.Laws.{record_over}
use Rattle.book_builder.proofs.put_record.Goals as goal

pub bounds-out-to-2 : goal.bounds-out-to-2
bounds-out-to-2 c = simp length-set (omega arith)

pub bounds-out-to-3 : goal.bounds-out-to-3
bounds-out-to-3 c = simp length-set (omega arith)

pub bounds-out-to-4 : goal.bounds-out-to-4
bounds-out-to-4 c = simp length-set (omega arith)

pub put_le-requires : goal.put_le-requires
put_le-requires c = simp length-set (omega arith)

pub put_le-requires-2 : goal.put_le-requires-2
put_le-requires-2 c = omega (arith, simp length-set at c.put_le.auto.out)

pub shape_of-out : goal.shape_of-out
shape_of-out c = omega (arith, c.put_le-2.auto.out, simp length-set at c.put_le.auto.out)

pub returns : goal.returns
returns c = c.put_le-2.ensures ∙ rw c.put_le.ensures (record_over _ c.args.to c.args.e)
