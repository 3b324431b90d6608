use Prim.Native.Nat.{◌≤◌}
use native.Mathlib.Omega.{arith}
use mathlib.Core.Path.{sym, refl, ◌∙◌}
use Rattle.std.proofs.lemmas.Result.{err_from_is_err_and}
use Rattle.mpeg_scan.specs.Scan.{other}
use Rattle.mpeg_scan.proofs.Laws.{run_from}
use Rattle.mpeg.specs.Lines.{lines_at}
use Rattle.mpeg.proofs.Turns.{label_in, label_known}
use Rattle.mpeg.proofs.Judging.{judge_end, judge_broken, judge_names, judge_cut, judge_fault, judge_taken}
use Rattle.mpeg.proofs.+ident_value.Goals as goal

pub ident-value-requires : goal.ident-value-requires
ident-value-requires t c =
    let g = label_in c.args.s.now c.skip-at.result _ _ (sym c.label_at.ensures ∙ c.in-Some.is) in
    (omega (arith, c.skip-at.ensures.0, c.requires), (omega arith, label_known _ _ _ (sym c.label_at.ensures ∙ c.in-Some.is)))

pub ident-returns-in-None : goal.ident-returns-in-None
ident-returns-in-None t c =
    let x = c.args.slots.now in
    simp (c.skip-at.ensures.2 x ∙ judge_broken _ _ c.if-s-at.false (sym c.label_at.ensures ∙ c.in-None.is) x, c.refuse.ensures) (refl, refl)

pub ident-returns-in-Some : goal.ident-returns-in-Some
ident-returns-in-Some t c =
    let x = c.args.slots.now in
    rw (c.skip-at.ensures.2 x ∙ judge_names _ _ c.if-s-at.false _ _ (sym c.label_at.ensures ∙ c.in-Some.is) x) c.value.ensures

pub ident-returns-then-s-at : goal.ident-returns-then-s-at
ident-returns-then-s-at t c = let x = c.args.slots.now in simp (c.skip-at.ensures.2 x ∙ judge_end _ _ c.if-s-at.true x) (refl, refl)

pub value-slice_bounds-take_line-count : goal.value-slice_bounds-take_line-count
value-slice_bounds-take_line-count t c = rw c.until-e.ensures (run_from (other 0x0A) _ _)

pub value-slice_bounds-take_line-start : goal.value-slice_bounds-take_line-start
value-slice_bounds-take_line-start t c =
    let w : c.args.label.value ≤ c.until-e.result = rw c.until-e.ensures (run_from (other 0x0A) _ _) in omega arith

pub value-ident-requires : goal.value-ident-requires
value-ident-requires t c =
    let w : c.args.label.value ≤ c.until-e.result = rw c.until-e.ensures (run_from (other 0x0A) _ _) in
    (omega (arith, c.requires), omega arith)

pub value-returns-then-s-e : goal.value-returns-then-s-e
value-returns-then-s-e t c =
    let a = c.args in
    simp (judge_cut _ a.line a.label.row _ _ (lines_at a.s.now) c.until-e.ensures a.slots.now c.if-s-e.true, c.refuse.ensures) (refl, refl)

pub value-returns-in_err-take_line : goal.value-returns-in_err-take_line
value-returns-in_err-take_line t c =
    let p = err_from_is_err_and c.from_residual.result c.from_residual.ensures.1 in
    rw (p.1, p.2) (rw (judge_fault _ _ _ _ _ _ c.until-e.ensures _ c.if-s-e.false _ (sym c.in_err-take_line.ensures.0)) (refl, c.in_err-take_line.ensures.1))

pub value-returns : goal.value-returns
value-returns t c =
    rw (judge_taken _ _ _ _ _ _ c.until-e.ensures _ c.if-s-e.false (sym c.in_ok-take_line.ensures.0), ← c.in_ok-take_line.ensures.1) c.ident.ensures
