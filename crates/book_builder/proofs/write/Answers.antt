use borrow.Author.Rules.{rules}
use native.Mathlib.Omega.{arith}
use borrow.Author.Tests.{eq-eqb, ne_eqb}
use native.Mathlib.Nat.{add-sub_cancel_left}
use mathlib.Core.Path.{◌≡◌, ◌∙◌, ap}
use Rattle.map_tracks.specs.declared.Types.{Types}
use Rattle.piece.specs.declared.Piece.{Piece}
use Rattle.stream.specs.Stream.{types_after}
use Rattle.book_builder.proofs.Laws.{write_begin, write_out, write_room, write_next, can_see, is_told}
use Rattle.book_builder.proofs.write.Goals as goal
use Rattle.book_builder.proofs.write.Goals.{then-x, else-x}

pub loop-at-init : goal.loop-at-init
loop-at-init c = (search rules, search rules, write_begin _ _ c.requires.0)

pub seen_at-x-requires : goal.seen_at-x-requires
seen_at-x-requires c = can_see _ _ _ _ c.loop-at.invariant.2.left c.loop-at-test.true

pub overflow_add-e : goal.overflow_add-e
overflow_add-e c = let l = c.loop-at in let w = is_told _ _ _ _ l.invariant.2.left c.loop-at-test.true in omega (arith, w.cut.within, ap (λ (y : Piece). y.len) c.seen_at-x.ensures)

pub slice_bounds-types_of-end : goal.slice_bounds-types_of-end
slice_bounds-types_of-end c = let l = c.loop-at in let w = is_told _ _ _ _ l.invariant.2.left c.loop-at-test.true in omega (arith, w.cut.within, ap (λ (y : Piece). y.len) c.seen_at-x.ensures)

pub bounds-types-x : goal.bounds-types-x
bounds-types-x c = let l = c.loop-at in
    let w = is_told _ _ _ _ l.invariant.2.left c.loop-at-test.true in
    omega (arith, w.track, ap (λ (y : Piece). y.track) c.seen_at-x.ensures)

pub put_records-to-requires : goal.put_records-to-requires
put_records-to-requires c = let l = c.loop-at in
    let e = c.seen_at-x.ensures in
    let t : c.if-x.types.media_types ≡ types_after c.args.s.now l.at c.seen_at-x.result l.types.media_types =
    elim c.if-x.branch [
      | then-x w ↦ rw (eq-eqb _ _ w.if-x.true) (ap (λ (k : Types). k.media_types) w.types-is ∙ rw add-sub_cancel_left at w.types_of-types.ensures)
      | else-x w ↦ rw (ne_eqb _ _ w.if-x.false) (ap (λ (k : Types). k.media_types) w.types-is)
    ] in
    let w = write_room _ _ _ _ _ _ l.invariant.2 c.loop-at-test.true c.if-x.types.media_types (rw e at t) in
    rw e (omega (arith, w, l.invariant.1, c.requires.1))

pub loop-at-smaller : goal.loop-at-smaller
loop-at-smaller c = let l = c.loop-at in let w = is_told _ _ _ _ l.invariant.2.left c.loop-at-test.true in omega (arith, w.cut.within, w.cut.least, ap (λ (y : Piece). y.len) c.seen_at-x.ensures)

pub loop-at-preserved : goal.loop-at-preserved
loop-at-preserved c = let l = c.loop-at in
    let h = c.loop-at-test.true in
    let w = is_told _ _ _ _ l.invariant.2.left h in
    let e = c.seen_at-x.ensures in
    let m = ap (λ (y : Piece). y.len) e in
    let t : c.if-x.types.media_types ≡ types_after c.args.s.now l.at c.seen_at-x.result l.types.media_types =
    elim c.if-x.branch [
      | then-x w ↦ rw (eq-eqb _ _ w.if-x.true) (ap (λ (k : Types). k.media_types) w.types-is ∙ rw add-sub_cancel_left at w.types_of-types.ensures)
      | else-x w ↦ rw (ne_eqb _ _ w.if-x.false) (ap (λ (k : Types). k.media_types) w.types-is)
    ] in (
      omega (arith, w.cut.within, m),
      c.put_records-to.auto.out ∙ l.invariant.1,
      rw m (write_next _ l.at l.to _ _ _ l.invariant.2 h c.if-x.types.media_types (rw e at t) _ (rw e at c.put_records-to.ensures.1) _ (rw e at c.put_records-to.ensures.0)),
    )

pub shape_of-out : goal.shape_of-out
shape_of-out c = c.loop-at.invariant.1

pub returns : goal.returns
returns c = write_out _ _ _ _ _ _ c.loop-at.invariant.2 c.loop-at-test.false
