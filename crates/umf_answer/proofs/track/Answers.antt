use borrow.Author.Rules.{rules}
use native.Mathlib.Omega.{arith}
use native.Mathlib.Nat.{add-sub_cancel_left}
use mathlib.Core.Path.{refl, sym}
use Rattle.std.specs.Prelude.{Err}
use Rattle.std.proofs.lemmas.Result.{err_from_is_err_and}
use Rattle.umf.specs.Split.{least_of}
use Rattle.umf.proofs.Stands.{stands, refused_by}
use Rattle.umf_answer.specs.Says.{track_in, track_at}
use Rattle.umf_answer.proofs.track.Goals as goal

pub overflow_add-from : goal.overflow_add-from
overflow_add-from c = let g = stands _ _ _ _ _ _ (sym c.in_ok-part.ensures) in search (rules, g.inside)

pub overflow_add-to : goal.overflow_add-to
overflow_add-to c = let g = stands _ _ _ _ _ _ (sym c.in_ok-part.ensures) in search (rules, g.inside)

pub slice_bounds-track_says-end : goal.slice_bounds-track_says-end
slice_bounds-track_says-end c = let g = stands _ _ _ _ _ _ (sym c.in_ok-part.ensures) in omega (arith, g.inside)

pub track_says-requires : goal.track_says-requires
unfolding least_of
track_says-requires c = let g = stands _ _ _ _ _ _ (sym c.in_ok-part.ensures) in rw (add-sub_cancel_left, g.size) g.least

pub returns-in_err-part : goal.returns-in_err-part
unfolding track_at
returns-in_err-part c = let p = err_from_is_err_and c.from_residual.result c.from_residual.ensures.1 in
    rw (p.1, p.2) (sym (refused_by track_in Err (λ r. refl) refl _ _ (sym c.in_err-part.ensures)))

pub returns : goal.returns
unfolding track_at
returns c = let g = stands _ _ _ _ _ _ (sym c.in_ok-part.ensures) in simp (g.it, c.track_says.ensures, add-sub_cancel_left)
