use native.Mathlib.Omega.{arith}
use native.Mathlib.Nat.{add-sub_cancel_left}
use mathlib.Core.Path.{sym}
use Rattle.std.proofs.lemmas.Result.{err_from_is_err_and}
use Rattle.packet.proofs.Laws.{whole, typed}
use Rattle.umf.specs.Umf.{asked_at, place_of}
use Rattle.umf.proofs.place.Goals as goal

pub overflow_add-end : goal.overflow_add-end
overflow_add-end c = let g = whole _ _ _ (typed _ _ _ _ (sym c.in_ok-w.ensures)).0 in omega arith

pub slice_bounds-nth_of-end : goal.slice_bounds-nth_of-end
slice_bounds-nth_of-end c = let g = whole _ _ _ (typed _ _ _ _ (sym c.in_ok-w.ensures)).0 in omega arith

pub returns-in_err-w : goal.returns-in_err-w
unfolding asked_at place_of
returns-in_err-w c = let p = err_from_is_err_and c.from_residual.result c.from_residual.ensures.1 in rw (p.1, p.2) (simp (sym c.in_err-w.ensures))

pub returns : goal.returns
unfolding asked_at
returns c = simp (add-sub_cancel_left, sym c.in_ok-w.ensures, c.nth_of.ensures)
