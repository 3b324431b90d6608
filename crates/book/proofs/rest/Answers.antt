use native.Mathlib.Omega.{arith}
use Prim.Native.Nat.{◌*◌, ◌/◌}
use mathlib.Core.Path.{◌≡◌, refl, sym, ◌∙◌}
use mathlib.Core.Bool.{false}
use lib.ListN.{length}
use Rattle.plate.specs.Choice.{pick}
use Rattle.number.proofs.Laws.{le_lt}
use Rattle.book.specs.Book.{rises_at}
use Rattle.book.proofs.Laws.{on_end, next, is_bad, may_stand}
use Rattle.book.proofs.rest.Goals as goal
use Rattle.book.proofs.rest.Goals.{then-not-is_sound-via-then-not-is_sound, then-not-is_sound-via-else-not-is_sound+then-not-rises}

pub is_sound-requires : goal.is_sound-requires
is_sound-requires c = rw c.le4.ensures (le_lt _ c.type_inv.book (c.loop-n.n * 16) 4)

pub returns-then-not-is_sound : goal.returns-then-not-is_sound
returns-then-not-is_sound c = let l = c.loop-n in
    let s = c.args.book.now in
    let q : pick c.is_sound.result (rises_at l.n l.last c.offset_at-offset.result) false ≡ false = elim c.then-not-is_sound.branch [
      | then-not-is_sound-via-then-not-is_sound w ↦ rw w.if-not-is_sound.true
      | then-not-is_sound-via-else-not-is_sound+then-not-rises w ↦ rw w.if-not-is_sound.false (sym w.rises.ensures ∙ w.if-not-rises.true)
    ] in
    rw l.invariant (c.bad_book.ensures ∙ is_bad s c.type_inv.book l.n l.last (omega arith) _ (rw (← c.le4.ensures, ← c.le4-here.ensures, ← c.is_sound.ensures, ← c.offset_at-offset.ensures) q))

pub loop-n-preserved : goal.loop-n-preserved
loop-n-preserved c = let l = c.loop-n in
    let s = c.args.book.now in
    let p = rw (c.le4.ensures, c.le4-here.ensures) at (sym c.is_sound.ensures ∙ c.if-not-is_sound.false) in
    let q = rw c.offset_at-offset.ensures at (sym c.rises.ensures ∙ c.if-not-rises.false) in
    l.invariant ∙ rw (c.offset_at-offset.ensures, next s l.n l.last (omega arith) (may_stand s c.type_inv.book l.n l.last (omega arith) p q))

pub returns : goal.returns
returns c = let l = c.loop-n in
    let s = c.args.book.now in
    let e : l.n ≡ length s / 16 = omega arith in
    rw (l.invariant, e) (c.unless_torn.ensures ∙ on_end s (length s / 16) l.last _ _ refl (λ _. refl))
