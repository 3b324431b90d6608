use native.Mathlib.Omega.{arith}
use mathlib.Core.Path.{sym, ◌∙◌}
use Rattle.packet.proofs.Laws.{typed, whole}
use Rattle.map_records.specs.Fill.{records_at}
use Rattle.map_records.proofs.Laws.{kth_record}
use Rattle.map_records.proofs.record_at.Goals as goal

pub overflow_add-at : goal.overflow_add-at
overflow_add-at c = let t = typed _ _ _ _ (sym c.of_type.ensures ∙ c.in-Ok.is) in let g = whole _ _ _ t.0 in omega arith

pub slice_bounds-kth_of-end : goal.slice_bounds-kth_of-end
slice_bounds-kth_of-end c = let t = typed _ _ _ _ (sym c.of_type.ensures ∙ c.in-Ok.is) in let g = whole _ _ _ t.0 in omega arith

pub returns-in-Ok : goal.returns-in-Ok
unfolding records_at
returns-in-Ok c = rw (sym c.of_type.ensures ∙ c.in-Ok.is) (c.kth_of.ensures ∙ sym (kth_record _ _))

pub returns-in-Err : goal.returns-in-Err
unfolding records_at
returns-in-Err c = rw (sym c.of_type.ensures ∙ c.in-Err.is)
