use native.Mathlib.Omega.{arith}
use mathlib.Core.Path.{sym, ◌∙◌}
use native.Mathlib.Nat.{add-sub_cancel_left}
use Rattle.piece.proofs.Laws.{media_there}
use Rattle.piece.proofs.piece_at.Goals as goal

pub returns-in_default : goal.returns-in_default
returns-in_default c = c.any_at.ensures

pub returns-then-first : goal.returns-then-first
returns-then-first c = let k = media_there _ _ _ (sym c.in-Some.is ∙ c.media_len.ensures) in rw (c.if-first.true, c.refuse.ensures) (sym k.opening)

pub overflow_add-at : goal.overflow_add-at
overflow_add-at c = let k = media_there _ _ _ (sym c.in-Some.is ∙ c.media_len.ensures) in omega (arith, k.cut.within)

pub slice_bounds-media_content-end : goal.slice_bounds-media_content-end
slice_bounds-media_content-end c = let k = media_there _ _ _ (sym c.in-Some.is ∙ c.media_len.ensures) in omega (arith, k.cut.within)

pub media_content-requires : goal.media_content-requires
media_content-requires c = let k = media_there _ _ _ (sym c.in-Some.is ∙ c.media_len.ensures) in simp (add-sub_cancel_left, k.cut.long) (omega (arith, k.cut.within, k.cut.least))

pub returns : goal.returns
returns c = let k = media_there _ _ _ (sym c.in-Some.is ∙ c.media_len.ensures) in rw c.if-first.false (rw add-sub_cancel_left at c.media_content.ensures ∙ sym k.same)
