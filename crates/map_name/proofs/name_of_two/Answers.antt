use native.Mathlib.Omega.{arith}
use Rattle.std.specs.Prelude.{Ok}
use mathlib.Core.Path.{ap, sym, ◌∙◌, refl}
use native.Mathlib.Nat.{add-sub_cancel_left}
use Rattle.map_name.proofs.Laws.{opening_within, closing_within}
use Rattle.map_name.proofs.name_of_two.Goals as goal

pub overflow_add-result : goal.overflow_add-result
overflow_add-result c = let w = opening_within _ _ _ _ _ (sym c.name_place_of_two.ensures ∙ c.in-Ok-Opening.is ∙ ap Ok c.in-Ok-Opening.field-0-is) in omega arith

pub slice_bounds-result-end : goal.slice_bounds-result-end
slice_bounds-result-end c = let w = opening_within _ _ _ _ _ (sym c.name_place_of_two.ensures ∙ c.in-Ok-Opening.is ∙ ap Ok c.in-Ok-Opening.field-0-is) in omega arith

pub overflow_add-result-in-Ok-Closing : goal.overflow_add-result-in-Ok-Closing
overflow_add-result-in-Ok-Closing c = let w = closing_within _ _ _ _ _ (sym c.name_place_of_two.ensures ∙ c.in-Ok-Closing.is ∙ ap Ok c.in-Ok-Closing.field-0-is) in omega arith

pub slice_bounds-result-end-in-Ok-Closing : goal.slice_bounds-result-end-in-Ok-Closing
slice_bounds-result-end-in-Ok-Closing c = let w = closing_within _ _ _ _ _ (sym c.name_place_of_two.ensures ∙ c.in-Ok-Closing.is ∙ ap Ok c.in-Ok-Closing.field-0-is) in omega arith

pub returns-in-Ok-Opening : goal.returns-in-Ok-Opening
returns-in-Ok-Opening c = simp (add-sub_cancel_left, sym c.name_place_of_two.ensures ∙ c.in-Ok-Opening.is ∙ ap Ok c.in-Ok-Opening.field-0-is) (refl, refl)

pub returns-in-Ok-Closing : goal.returns-in-Ok-Closing
returns-in-Ok-Closing c = simp (add-sub_cancel_left, sym c.name_place_of_two.ensures ∙ c.in-Ok-Closing.is ∙ ap Ok c.in-Ok-Closing.field-0-is) (refl, refl)

pub returns-in-Err : goal.returns-in-Err
returns-in-Err c = simp (sym c.name_place_of_two.ensures ∙ c.in-Err.is) (refl, refl)
