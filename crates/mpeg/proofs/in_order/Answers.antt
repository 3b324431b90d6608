use native.Mathlib.Omega.{arith}
use Rattle.std.specs.Prelude.{Option}
use Prim.Native.Nat.{ℕ, ◌+◌, ◌<◌, ◌≤◌}
use mathlib.Core.List.{List}
use mathlib.Core.Path.{sym, refl, ap, ◌∙◌}
use Rattle.std.proofs.lemmas.Result.{err_from_is_err_and}
use Rattle.mpeg_scan.specs.Scan.{other}
use Rattle.mpeg_scan.proofs.Laws.{run_from}
use Rattle.mpeg.specs.Lines.{lines_at}
use Rattle.mpeg.specs.Read.{judge_lines}
use Rattle.mpeg.proofs.Turns.{next_in, label_known}
use Rattle.mpeg.proofs.Judging.{judge_end, judge_broken, judge_names, judge_cut, judge_fault, judge_taken}
use Rattle.mpeg.proofs.in_order.Goals as goal

pub returns-in_default : goal.returns-in_default
returns-in_default c = simp (c.loop-at.invariant.1 ∙ judge_broken _ _ c.loop-at-test.true (sym c.label_at.ensures ∙ c.in_default.is) _, c.refuse.ensures) (refl, refl)

pub returns-then-s-e : goal.returns-then-s-e
returns-then-s-e c = simp (c.loop-at.invariant.1 ∙ judge_names _ _ c.loop-at-test.true _ _ (sym c.label_at.ensures ∙ c.in-Some.is) _ ∙ judge_cut _ _ _ _ _ (lines_at _) c.until-e.ensures _ c.if-s-e.true, c.refuse-then-s-e.ensures) (refl, refl)

pub slice_bounds-take_line-count : goal.slice_bounds-take_line-count
slice_bounds-take_line-count c = let w : c.in-Some.label.value ≤ c.until-e.result = rw c.until-e.ensures (run_from (other 0x0A) _ _) in omega arith

pub slice_bounds-take_line-start : goal.slice_bounds-take_line-start
slice_bounds-take_line-start c = let w : c.in-Some.label.value ≤ c.until-e.result = rw c.until-e.ensures (run_from (other 0x0A) _ _) in omega arith

pub returns-in_err-take_line : goal.returns-in_err-take_line
returns-in_err-take_line c =
    let p = err_from_is_err_and c.from_residual.result c.from_residual.ensures.1 in
    rw (p.1, p.2) (rw (c.loop-at.invariant.1 ∙ judge_names _ _ c.loop-at-test.true _ _ (sym c.label_at.ensures ∙ c.in-Some.is) _ ∙ judge_fault _ _ _ _ _ (lines_at _) c.until-e.ensures _ c.if-s-e.false _ (sym c.in_err-take_line.ensures.0)) (refl, c.in_err-take_line.ensures.1))

pub take_line-requires : goal.take_line-requires
take_line-requires c = label_known _ _ _ (sym c.label_at.ensures ∙ c.in-Some.is)

pub loop-at-smaller : goal.loop-at-smaller
loop-at-smaller c = let w : c.loop-at.at < c.until-e.result = rw c.until-e.ensures (next_in _ _ _ _ (sym c.label_at.ensures ∙ c.in-Some.is)) in
    omega arith

pub loop-at-preserved : goal.loop-at-preserved
loop-at-preserved c = (
  omega arith,
  c.loop-at.invariant.1 ∙ judge_names _ _ c.loop-at-test.true _ _ (sym c.label_at.ensures ∙ c.in-Some.is) _ ∙ judge_taken _ _ _ _ _ (lines_at _) c.until-e.ensures _ c.if-s-e.false (sym c.in_ok-take_line.ensures.0) ∙ ap (λ (slots : List (Option ℕ)). judge_lines slots (lines_at c.args.s.now (c.until-e.result + 1))) (sym c.in_ok-take_line.ensures.1),
)

pub returns : goal.returns
returns c = simp (c.loop-at.invariant.1 ∙ judge_end _ _ c.loop-at-test.false _) (refl, refl)
