use mathlib.Core.Path.{sym, ◌∙◌}
use Rattle.std.proofs.lemmas.Result.{err_from_is_err_and}
use Rattle.map.specs.Map.{sections_verdict}
use Rattle.map.proofs.judge_one.Goals as goal

pub returns-in_err-judge : goal.returns-in_err-judge
unfolding sections_verdict
returns-in_err-judge c = let p = err_from_is_err_and c.from_residual.result c.from_residual.ensures.1 in rw (p.1, p.2) (rw (sym c.judge.ensures ∙ c.in_err-judge.was))

pub returns : goal.returns
unfolding sections_verdict
returns c = rw (sym c.judge.ensures ∙ c.in_ok-judge.was) c.refused.ensures
