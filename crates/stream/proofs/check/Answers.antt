use mathlib.Core.Path.{sym, ◌∙◌}
use Rattle.std.proofs.lemmas.Result.{err_from_is_err_and}
use Rattle.stream.proofs.Laws.{check_passed, check_refused}
use Rattle.stream.proofs.check.Goals as goal

pub returns : goal.returns
returns c = check_passed _ _ _ _ (sym c.one_pass.ensures ∙ c.in_ok-pass.was)

pub returns-in_err-pass : goal.returns-in_err-pass
returns-in_err-pass c = let p = err_from_is_err_and c.from_residual.result c.from_residual.ensures.1 in rw (p.1, p.2) (check_refused _ _ _ _ (sym c.one_pass.ensures ∙ c.in_err-pass.was))
