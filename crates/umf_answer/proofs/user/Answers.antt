use borrow.Author.Rules.{rules}
use native.Mathlib.Omega.{arith}
use native.Mathlib.Nat.{add-sub_cancel_left}
use mathlib.Core.Path.{refl, sym}
use Rattle.std.specs.Prelude.{Err}
use Rattle.std.proofs.lemmas.Result.{err_from_is_err_and}
use Rattle.umf.specs.Split.{least_of}
use Rattle.umf.proofs.Stands.{stands, refused_by}
use Rattle.umf_answer.specs.Says.{user_in, user_at}
use Rattle.umf_answer.proofs.user.Goals as goal

pub overflow_add-from : goal.overflow_add-from
overflow_add-from c = let g = stands _ _ _ _ _ _ (sym c.in_ok-part.ensures) in search (rules, g.inside)

pub overflow_add-to : goal.overflow_add-to
overflow_add-to c = let g = stands _ _ _ _ _ _ (sym c.in_ok-part.ensures) in search (rules, g.inside)

pub slice_bounds-user_says-end : goal.slice_bounds-user_says-end
slice_bounds-user_says-end c = let g = stands _ _ _ _ _ _ (sym c.in_ok-part.ensures) in omega (arith, g.inside)

pub user_says-requires : goal.user_says-requires
unfolding least_of
user_says-requires c = let g = stands _ _ _ _ _ _ (sym c.in_ok-part.ensures) in
    (rw (add-sub_cancel_left, g.size) g.least, rw (add-sub_cancel_left, g.size) (omega (arith, g.inside, c.ranges)))

pub returns-in_err-part : goal.returns-in_err-part
unfolding user_at
returns-in_err-part c = let p = err_from_is_err_and c.from_residual.result c.from_residual.ensures.1 in
    rw (p.1, p.2) (sym (refused_by user_in Err (λ r. refl) refl _ _ (sym c.in_err-part.ensures)))

pub returns : goal.returns
unfolding user_at
returns c = let g = stands _ _ _ _ _ _ (sym c.in_ok-part.ensures) in simp (g.it, c.user_says.ensures, add-sub_cancel_left)
