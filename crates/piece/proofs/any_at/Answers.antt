use native.Mathlib.Omega.{arith}
use mathlib.Core.Path.{sym, ◌∙◌}
use native.Mathlib.Nat.{add-sub_cancel_left}
use Rattle.std.proofs.lemmas.Result.{err_from_is_err_and}
use Rattle.piece.specs.Piece.{piece_at}
use Rattle.piece.proofs.Laws.{cut}
use Rattle.piece.proofs.any_at.Goals as goal

pub overflow_add-at : goal.overflow_add-at
overflow_add-at c = let k = cut _ _ _ (sym c.header.ensures ∙ c.in_ok-w.was) in omega arith

pub slice_bounds-content-end : goal.slice_bounds-content-end
slice_bounds-content-end c = let k = cut _ _ _ (sym c.header.ensures ∙ c.in_ok-w.was) in omega arith

pub content-requires : goal.content-requires
content-requires c = let k = cut _ _ _ (sym c.header.ensures ∙ c.in_ok-w.was) in simp (add-sub_cancel_left, k.long) (omega arith)

pub returns : goal.returns
unfolding piece_at
returns c = rw (sym c.header.ensures ∙ c.in_ok-w.was, sym c.may_open.ensures ∙ c.if-not-may_open.false) (rw add-sub_cancel_left at c.content.ensures)

pub returns-in_err-w : goal.returns-in_err-w
unfolding piece_at
returns-in_err-w c = let p = err_from_is_err_and c.from_residual.result c.from_residual.ensures.1 in rw (p.1, p.2) (rw (sym c.header.ensures ∙ c.in_err-w.was))

pub returns-then-not-may_open : goal.returns-then-not-may_open
unfolding piece_at
returns-then-not-may_open c = rw (sym c.header.ensures ∙ c.in_ok-w.was, sym c.may_open.ensures ∙ c.if-not-may_open.true, c.refuse.ensures)
