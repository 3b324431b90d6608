use native.Mathlib.Omega.{arith}
use mathlib.Core.Path.{sym, ◌∙◌}
use Rattle.std.proofs.lemmas.Result.{err_from_is_err_and}
use Rattle.packet.proofs.Laws.{typed, whole}
use Rattle.map.specs.Map.{track_at}
use Rattle.map.proofs.track.Goals as goal

pub overflow_add-at : goal.overflow_add-at
overflow_add-at c = let t = typed _ _ _ _ (sym c.of_type.ensures ∙ c.in_ok-w.was) in let g = whole _ _ _ t.0 in omega arith

pub slice_bounds-track_of-end : goal.slice_bounds-track_of-end
slice_bounds-track_of-end c = let t = typed _ _ _ _ (sym c.of_type.ensures ∙ c.in_ok-w.was) in let g = whole _ _ _ t.0 in omega arith

pub returns-in_err-w : goal.returns-in_err-w
unfolding track_at
returns-in_err-w c = let p = err_from_is_err_and c.from_residual.result c.from_residual.ensures.1 in rw (p.1, p.2) (rw (sym c.of_type.ensures ∙ c.in_err-w.was))

pub returns : goal.returns
unfolding track_at
returns c = rw (sym c.of_type.ensures ∙ c.in_ok-w.was) c.track_of.ensures
