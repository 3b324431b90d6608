use native.Mathlib.Omega.{arith}
use mathlib.Core.Path.{sym, refl}
use native.Mathlib.Nat.{add-sub_cancel_left}
use Rattle.source_name.specs.SourceName.{name_bytes, place_in}
use Rattle.source_name.proofs.Laws.{name_within}
use Rattle.source_name.proofs.name.Goals as goal

pub overflow_add-from : goal.overflow_add-from
overflow_add-from c = let w = name_within _ _ _ _ _ (rw c.in-Ok-Some.field-0-is at (sym c.in-Ok-Some.ensures)) in omega arith

pub overflow_add-to : goal.overflow_add-to
overflow_add-to c = let w = name_within _ _ _ _ _ (rw c.in-Ok-Some.field-0-is at (sym c.in-Ok-Some.ensures)) in omega arith

pub slice_bounds-result-end : goal.slice_bounds-result-end
slice_bounds-result-end c = let w = name_within _ _ _ _ _ (rw c.in-Ok-Some.field-0-is at (sym c.in-Ok-Some.ensures)) in omega arith

pub returns-in-Ok-Some : goal.returns-in-Ok-Some
unfolding name_bytes place_in
returns-in-Ok-Some c = simp (add-sub_cancel_left, rw c.in-Ok-Some.field-0-is at (sym c.in-Ok-Some.ensures)) (refl, refl)

pub returns-in-Ok-None : goal.returns-in-Ok-None
unfolding name_bytes place_in
returns-in-Ok-None c = simp (rw c.in-Ok-None.field-0-is at (sym c.in-Ok-None.ensures)) (refl, refl)

pub returns-in-Err : goal.returns-in-Err
unfolding name_bytes place_in
returns-in-Err c = simp (sym c.in-Err.ensures) (refl, refl)
