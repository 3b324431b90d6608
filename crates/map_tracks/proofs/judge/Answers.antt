use borrow.Author.Rules.{rules}
use Rattle.std.proofs.lemmas.Result.{err_from_is_err_and}
use native.Mathlib.Omega.{arith}
use mathlib.Core.Path.{sym, ◌∙◌}
use native.Mathlib.Nat.{add-sub_cancel_left}
use Rattle.map_tracks.proofs.Judged.{start, on_done, on_short, on_type, on_id, on_over, on_twice, on_refused, on_next}
use Rattle.map_tracks.proofs.judge.Goals as goal

pub loop-at-init : goal.loop-at-init
loop-at-init c = (search rules, start _ _ _ c.nobody-seen.ensures)

pub returns-then-left-lt4 : goal.returns-then-left-lt4
returns-then-left-lt4 c = c.refused.ensures ∙ on_short _ _ _ _ c.loop-at.invariant.1 c.loop-at-test.true c.if-left-lt4.true

pub returns-then-type_byte-lt128 : goal.returns-then-type_byte-lt128
returns-then-type_byte-lt128 c = c.refused-then-type_byte-lt128.ensures ∙ on_type _ _ _ _ c.loop-at.invariant.1 c.if-left-lt4.false c.if-type_byte-lt128.true

pub returns-then-id-lt192 : goal.returns-then-id-lt192
returns-then-id-lt192 c = c.refused-then-id-lt192.ensures ∙ on_id _ _ _ _ c.loop-at.invariant.1 c.if-left-lt4.false c.if-type_byte-lt128.false c.if-id-lt192.true

pub returns-then-left-n : goal.returns-then-left-n
returns-then-left-n c = c.refused-then-left-n.ensures ∙ on_over _ _ _ _ c.loop-at.invariant.1 c.if-left-lt4.false c.if-type_byte-lt128.false c.if-id-lt192.false _ c.be_at-n.ensures c.if-left-n.true

pub returns-then-has : goal.returns-then-has
returns-then-has c = c.refused-then-has.ensures
    ∙ on_twice _ _ _ _ c.loop-at.invariant.1 c.if-left-lt4.false c.if-type_byte-lt128.false c.if-id-lt192.false _ c.be_at-n.ensures c.if-left-n.false (c.type_inv.s _).fits
    (sym c.has.ensures ∙ c.if-has.true)

pub returns-in_err-judge_track : goal.returns-in_err-judge_track
returns-in_err-judge_track c = let p = err_from_is_err_and c.from_residual.result c.from_residual.ensures.1 in rw (p.1, p.2) (on_refused _ _ _ _ c.loop-at.invariant.1 c.if-left-lt4.false c.if-type_byte-lt128.false c.if-id-lt192.false _ c.be_at-n.ensures c.if-left-n.false (c.type_inv.s _).fits
    (sym c.has.ensures ∙ c.if-has.false) _ (rw add-sub_cancel_left at (sym c.judge_track.ensures) ∙ c.in_err-judge_track.was))

pub loop-at-preserved : goal.loop-at-preserved
loop-at-preserved c = (
  omega arith,
  on_next _ _ _ _ c.loop-at.invariant.1 c.if-left-lt4.false c.if-type_byte-lt128.false c.if-id-lt192.false _ c.be_at-n.ensures c.if-left-n.false (c.type_inv.s _).fits
      (sym c.has.ensures ∙ c.if-has.false) _ (rw add-sub_cancel_left at (sym c.judge_track.ensures) ∙ c.in_ok-judge_track.was) c.with-seen.ensures,
)

pub returns : goal.returns
returns c = on_done _ _ _ _ c.loop-at.invariant.1 c.loop-at-test.false
