use native.Mathlib.Omega.{arith}
use mathlib.Core.Path.{sym, ◌∙◌, refl}
use native.Mathlib.Nat.{add-sub_cancel_left}
use Rattle.map_name.proofs.Laws.{place_within}
use Rattle.map_name.proofs.name.Goals as goal

pub overflow_add-result : goal.overflow_add-result
overflow_add-result c = let w = place_within _ _ _ _ (sym c.name_place.ensures ∙ c.in-Ok.is) in omega arith

pub slice_bounds-result-end : goal.slice_bounds-result-end
slice_bounds-result-end c = let w = place_within _ _ _ _ (sym c.name_place.ensures ∙ c.in-Ok.is) in omega arith

pub returns-in-Ok : goal.returns-in-Ok
returns-in-Ok c = simp (add-sub_cancel_left, sym c.name_place.ensures ∙ c.in-Ok.is) (refl, refl)

pub returns-in-Err : goal.returns-in-Err
returns-in-Err c = simp (sym c.name_place.ensures ∙ c.in-Err.is) (refl, refl)
