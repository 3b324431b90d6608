use native.Mathlib.Omega.{arith}
use Rattle.std.specs.Prelude.{Ok, Err}
use Rattle.std.proofs.lemmas.Result.{err_from_is_err_and}
use mathlib.Core.Path.{◌≡◌, sym, ◌∙◌, ap}
use borrow.Author.Tests.{eq-eqb, ne_eqb}
use native.Mathlib.Nat.{add-sub_cancel_left}
use Rattle.map_tracks.specs.declared.Types.{Types}
use Rattle.piece.proofs.Laws.{told}
use Rattle.stream.specs.Stream.{types_after}
use Rattle.stream.proofs.Laws.{begin, on_out, on_refused, on_step_refused, on_ended, on_next, next_bounds}
use Rattle.stream.proofs.one_pass.Goals as goal
use Rattle.stream.proofs.one_pass.Goals.{then-x, else-x}

pub loop-at-init : goal.loop-at-init
loop-at-init c = rw c.start-p.ensures (omega arith, omega arith, omega arith, begin _ _ _)

pub returns-in_err-x : goal.returns-in_err-x
returns-in_err-x c = let p = err_from_is_err_and c.from_residual.result c.from_residual.ensures.1 in rw (p.1, p.2) (on_refused _ _ _ _ _ _ _ c.loop-at.invariant.3 c.loop-at-test.true _ (sym c.in_err-x.ensures))

pub overflow_add-e : goal.overflow_add-e
overflow_add-e c = let w = told _ _ _ _ (sym c.piece_at.ensures ∙ c.in_ok-x.was) in omega (arith, w.cut.within)

pub slice_bounds-types_of-end : goal.slice_bounds-types_of-end
slice_bounds-types_of-end c = let w = told _ _ _ _ (sym c.piece_at.ensures ∙ c.in_ok-x.was) in omega (arith, w.cut.within)

pub first_with-first-requires : goal.first_with-first-requires
first_with-first-requires c = let w = told _ _ _ _ (sym c.piece_at.ensures ∙ c.in_ok-x.was) in omega (arith, w.track)

pub bounds-types-x : goal.bounds-types-x
bounds-types-x c = let w = told _ _ _ _ (sym c.piece_at.ensures ∙ c.in_ok-x.was) in omega (arith, w.track)

pub take_step-requires : goal.take_step-requires
take_step-requires c = omega arith

pub returns-in_err-count : goal.returns-in_err-count
returns-in_err-count c = let a = c.args in let l = c.loop-at in let x = c.in_ok-x.x in
    let t : c.if-x.types.media_types ≡ types_after a.s.now l.at x l.types.media_types =
    elim c.if-x.branch [
      | then-x w ↦ rw (eq-eqb _ _ w.if-x.true) (ap (λ (k : Types). k.media_types) w.types-is ∙ rw add-sub_cancel_left at w.types_of-types.ensures)
      | else-x w ↦ rw (ne_eqb _ _ w.if-x.false) (ap (λ (k : Types). k.media_types) w.types-is)
    ] in
    let e = sym c.piece_at.ensures ∙ c.in_ok-x.was in
    let p = err_from_is_err_and c.from_residual-in_err-count.result c.from_residual-in_err-count.ensures.1 in
    rw (p.1, p.2) (on_step_refused a.s.now a.track a.field l.at l.p l.types.media_types l.first l.invariant.3 c.loop-at-test.true x e c.if-x.types.media_types t _ (sym (rw c.type_alone-listed.ensures at c.take_step.ensures) ∙ c.in_err-count.was))

pub returns-in-Ended : goal.returns-in-Ended
returns-in-Ended c = let a = c.args in let l = c.loop-at in let x = c.in_ok-x.x in
    let t : c.if-x.types.media_types ≡ types_after a.s.now l.at x l.types.media_types =
    elim c.if-x.branch [
      | then-x w ↦ rw (eq-eqb _ _ w.if-x.true) (ap (λ (k : Types). k.media_types) w.types-is ∙ rw add-sub_cancel_left at w.types_of-types.ensures)
      | else-x w ↦ rw (ne_eqb _ _ w.if-x.false) (ap (λ (k : Types). k.media_types) w.types-is)
    ] in
    let e = sym c.piece_at.ensures ∙ c.in_ok-x.was in
    rw c.first_with-first.ensures (on_ended a.s.now a.track a.field l.at l.p l.types.media_types l.first l.invariant.3 c.loop-at-test.true x e c.if-x.types.media_types t _ (sym (rw c.type_alone-listed.ensures at c.take_step.ensures) ∙ c.in_ok-count.was ∙ ap Ok c.in-Ended.is))

pub loop-at-smaller : goal.loop-at-smaller
loop-at-smaller c = let w = told _ _ _ _ (sym c.piece_at.ensures ∙ c.in_ok-x.was) in omega (arith, w.cut.within, w.cut.least)

pub loop-at-preserved : goal.loop-at-preserved
loop-at-preserved c = let a = c.args in let l = c.loop-at in let x = c.in_ok-x.x in
    let t : c.if-x.types.media_types ≡ types_after a.s.now l.at x l.types.media_types =
    elim c.if-x.branch [
      | then-x w ↦ rw (eq-eqb _ _ w.if-x.true) (ap (λ (k : Types). k.media_types) w.types-is ∙ rw add-sub_cancel_left at w.types_of-types.ensures)
      | else-x w ↦ rw (ne_eqb _ _ w.if-x.false) (ap (λ (k : Types). k.media_types) w.types-is)
    ] in
    let e = sym c.piece_at.ensures ∙ c.in_ok-x.was in
    let f = (sym (rw c.type_alone-listed.ensures at c.take_step.ensures) ∙ c.in_ok-count.was ∙ ap Ok c.in-Next.is) in
    let w = told _ _ _ _ e in
    let b = next_bounds _ _ _ _ _ _ f in
    (omega (arith, w.cut.within), omega (arith, w.cut.least, b.0), omega (arith, w.cut.least, b.1), rw c.first_with-first.ensures (on_next a.s.now a.track a.field l.at l.p l.types.media_types l.first l.invariant.3 c.loop-at-test.true x e c.if-x.types.media_types t _ f))

pub returns : goal.returns
returns c = ap Err c.ran_out.ensures ∙ on_out _ _ _ _ _ _ _ c.loop-at.invariant.3 c.loop-at-test.false
