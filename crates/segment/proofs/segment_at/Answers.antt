use borrow.Author.Rules.{rules}
use native.Mathlib.Omega.{arith}
use native.Mathlib.Nat.{add-sub_cancel_left}
use mathlib.Core.Path.{refl, sym}
use Rattle.std.specs.Prelude.{Err}
use Rattle.std.proofs.lemmas.Result.{err_from_is_err_and}
use Rattle.umf.specs.Split.{least_of}
use Rattle.umf.proofs.Stands.{stands, refused_by}
use Rattle.segment.specs.Segment.{segment_in, segment_at}
use Rattle.segment.proofs.segment_at.Goals as goal

pub overflow_add-from : goal.overflow_add-from
overflow_add-from c = let g = stands _ _ _ _ _ _ (sym c.in_ok-part.ensures) in search (rules, g.inside)

pub overflow_add-to : goal.overflow_add-to
overflow_add-to c = let g = stands _ _ _ _ _ _ (sym c.in_ok-part.ensures) in search (rules, g.inside)

pub slice_bounds-description-end : goal.slice_bounds-description-end
slice_bounds-description-end c = let g = stands _ _ _ _ _ _ (sym c.in_ok-part.ensures) in omega (arith, g.inside)

pub segment-requires : goal.segment-requires
unfolding least_of
segment-requires c = let g = stands _ _ _ _ _ _ (sym c.in_ok-part.ensures) in
    rw (add-sub_cancel_left, g.size) (omega (arith, g.inside, c.ranges))

pub returns-in_err-part : goal.returns-in_err-part
unfolding segment_at
returns-in_err-part c = let p = err_from_is_err_and c.from_residual.result c.from_residual.ensures.1 in
    rw (p.1, p.2) (sym (refused_by segment_in Err (λ r. refl) refl _ _ (sym c.in_err-part.ensures)))

pub returns : goal.returns
unfolding segment_at
returns c = let g = stands _ _ _ _ _ _ (sym c.in_ok-part.ensures) in simp (g.it, c.segment.ensures, add-sub_cancel_left)

pub invariant_of-description : goal.invariant_of-description
unfolding least_of
invariant_of-description c = let g = stands _ _ _ _ _ _ (sym c.in_ok-part.ensures) in record { whole = rw (add-sub_cancel_left, g.size) g.least }
