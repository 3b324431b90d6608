use native.Mathlib.Omega.{arith}
use native.Mathlib.Nat.{add-sub_cancel_left}
use mathlib.Core.Path.{sym}
use Rattle.std.proofs.lemmas.Result.{err_from_is_err_and}
use Rattle.packet.proofs.Laws.{whole, typed}
use Rattle.umf_answer.specs.Says.{umf_at}
use Rattle.umf_answer.proofs.read.Goals as goal

pub overflow_add-end : goal.overflow_add-end
overflow_add-end c = let g = whole _ _ _ (typed _ _ _ _ (sym c.in_ok-w.ensures)).0 in omega arith

pub slice_bounds-p-end : goal.slice_bounds-p-end
slice_bounds-p-end c = let g = whole _ _ _ (typed _ _ _ _ (sym c.in_ok-w.ensures)).0 in omega arith

pub returns-in_err-w : goal.returns-in_err-w
unfolding umf_at
returns-in_err-w c = let p = err_from_is_err_and c.from_residual.result c.from_residual.ensures.1 in rw (p.1, p.2) (simp (sym c.in_err-w.ensures))

pub returns-in_err-verdict_of : goal.returns-in_err-verdict_of
unfolding umf_at
returns-in_err-verdict_of c = let p = err_from_is_err_and c.from_residual-in_err-verdict_of.result c.from_residual-in_err-verdict_of.ensures.1 in
    rw (p.1, p.2) (simp (sym c.in_ok-w.ensures, rw add-sub_cancel_left at (sym c.in_err-verdict_of.ensures)))

pub returns : goal.returns
unfolding umf_at
returns c = simp (sym c.in_ok-w.ensures, rw add-sub_cancel_left at (sym c.in_ok-verdict_of.ensures), c.says.ensures, add-sub_cancel_left)
