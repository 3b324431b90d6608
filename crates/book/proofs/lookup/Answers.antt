use native.Mathlib.Omega.{arith}
use Prim.Native.Nat.{◌+◌, ◌*◌, ◌/◌}
use mathlib.Core.Path.{◌≡◌, refl, sym, ◌∙◌}
use mathlib.Core.Bool.{false}
use lib.ListN.{length}
use Rattle.plate.proofs.Tests.{no_choice}
use Rattle.number.specs.Number.{le}
use Rattle.number.proofs.Laws.{le_lt}
use Rattle.book.specs.Book.{is_of, said_at}
use Rattle.book.proofs.Laws.{begin, none_at_end, none_told, some_told, is_bad, may_stand, on_end, on_next, on_found, not_field, not_track, both_are}
use Rattle.book.proofs.lookup.Goals as goal
use Rattle.book.proofs.lookup.Goals.{else-near-via-then-near+else-book-at, else-near-via-else-near}

pub loop-n-init : goal.loop-n-init
loop-n-init c = begin _ _ _

pub judged-requires : goal.judged-requires
judged-requires c = rw c.le4-head.ensures (le_lt _ c.type_inv.book (c.loop-n.n * 16) 4)

pub returns-in_default : goal.returns-in_default
returns-in_default c = let l = c.loop-n in
    let a = c.args in
    let s = a.book.now in
    let g = c.type_inv.book in
    let k = rw (c.le4-head.ensures, c.le4-here.ensures) at (sym c.in_default.ensures) in
    let e = none_told (le s (l.n * 16) 4) (le s (l.n * 16 + 4) 4) (le_lt s g (l.n * 16) 4) a.field k in
    rw l.invariant (c.bad_book.ensures ∙ is_bad s g l.n l.last (omega arith) _ (rw e))

pub returns-then-book-at : goal.returns-then-book-at
returns-then-book-at c = let l = c.loop-n in
    let a = c.args in
    let s = a.book.now in
    let g = c.type_inv.book in
    let k = rw (c.le4-head.ensures, c.le4-here.ensures) at (sym c.in-Some.ensures) in
    let e = some_told (le s (l.n * 16) 4) (le s (l.n * 16 + 4) 4) (le_lt s g (l.n * 16) 4) a.field _ k in
    rw l.invariant (c.rest.ensures ∙ rw c.offset_at-offset.ensures (on_found s _ _ l.n l.last (omega arith) (both_are s g (l.n * 16) a.track a.field (e.1 ∙ c.if-near.true) c.if-book-at.true)))

pub returns-then-not-rises : goal.returns-then-not-rises
returns-then-not-rises c = let l = c.loop-n in
    let s = c.args.book.now in
    rw l.invariant
    (c.bad_book-then-not-rises.ensures ∙ is_bad s c.type_inv.book l.n l.last (omega arith) _ (rw (← c.offset_at-offset.ensures, ← c.rises.ensures, c.if-not-rises.true) (no_choice _ false)))

pub loop-n-preserved : goal.loop-n-preserved
loop-n-preserved c = let l = c.loop-n in
    let a = c.args in
    let s = a.book.now in
    let g = c.type_inv.book in
    let k = rw (c.le4-head.ensures, c.le4-here.ensures) at (sym c.in-Some.ensures) in
    let e = some_told (le s (l.n * 16) 4) (le s (l.n * 16 + 4) 4) (le_lt s g (l.n * 16) 4) a.field _ k in
    let q = rw c.offset_at-offset.ensures at (sym c.rises.ensures ∙ c.if-not-rises.false) in
    let f = may_stand s g l.n l.last (omega arith) e.0 q in
    let other : is_of a.track a.field (said_at s (l.n * 16)) ≡ false = elim c.else-near.branch [
      | else-near-via-then-near+else-book-at w ↦ not_track s g (l.n * 16) a.track a.field w.if-book-at.false
      | else-near-via-else-near w ↦ not_field s g (l.n * 16) a.track a.field (e.1 ∙ w.if-near.false)
    ] in
    l.invariant ∙ rw c.offset_at-offset.ensures (on_next s _ _ l.n l.last (omega arith) f other)

pub returns : goal.returns
returns c = let l = c.loop-n in
    let s = c.args.book.now in
    let e : l.n ≡ length s / 16 = omega arith in
    rw (l.invariant, e) (c.unless_torn.ensures ∙ on_end s (length s / 16) l.last _ _ refl (λ h. rw (c.refuse.ensures, none_at_end s (length s / 16) l.last _ _ h)))
