use borrow.Author.Rules.{rules}
use Rattle.std.proofs.lemmas.Result.{err_from_is_err_and}
use mathlib.Core.Path.{sym, ◌∙◌}
use Rattle.map_items.proofs.Anywhere.{verdict_accepted}
use Rattle.map_tracks.proofs.Form.{track_refused, track_passed}
use Rattle.map_tracks.proofs.judge_track.Goals as goal

pub judge_end-requires : goal.judge_end-requires
judge_end-requires c = (search rules, (verdict_accepted _ _ _ (sym c.judge.ensures ∙ c.in_ok-judge.was)).1)

pub returns-in_err-judge : goal.returns-in_err-judge
returns-in_err-judge c = let p = err_from_is_err_and c.from_residual.result c.from_residual.ensures.1 in rw (p.1, p.2) (track_refused _ _ _ _ (sym c.judge.ensures ∙ c.in_err-judge.was))

pub returns : goal.returns
returns c = c.judge_end.ensures ∙ track_passed _ _ _ (sym c.judge.ensures ∙ c.in_ok-judge.was)
