use native.Mathlib.Omega.{arith}
use mathlib.Core.Path.{sym, ◌∙◌}
use Rattle.map_answer.proofs.Laws.{stands}
use Rattle.map_tracks.proofs.Form.{on_unlisted, on_absent, on_null, on_wrong}
use Rattle.map_tracks.proofs.judge_end.Goals as goal

pub returns-then-not-is_known : goal.returns-then-not-is_known
returns-then-not-is_known c = on_unlisted _ _ _ (rw c.bare-media_type.ensures at (sym c.is_known.ensures ∙ c.if-not-is_known.true))

pub overflow_sub-value : goal.overflow_sub-value
overflow_sub-value c = let w = stands _ _ _ _ _ (sym c.found_in_whole.ensures ∙ c.in-Some.is) in omega arith

pub returns-in-Some : goal.returns-in-Some
returns-in-Some c = c.refused.ensures
    ∙ on_wrong _ _ _ (rw c.bare-media_type.ensures at (sym c.is_known.ensures ∙ c.if-not-is_known.false)) (sym c.has_null_name.ensures ∙ c.if-not-has_null_name.true) _ _
    (rw (c.wrong_form.ensures, c.bare-media_type.ensures) at (sym c.found_in_whole.ensures ∙ c.in-Some.is))

pub returns-in_default : goal.returns-in_default
returns-in_default c = on_null _ _ _ (sym c.has_null_name.ensures ∙ c.if-not-has_null_name.false)

pub returns-in_default-2 : goal.returns-in_default-2
returns-in_default-2 c = on_absent _ _ _ (rw (c.wrong_form.ensures, c.bare-media_type.ensures) at (sym c.found_in_whole.ensures ∙ c.in_default.is))
