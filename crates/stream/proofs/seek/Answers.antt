use mathlib.Core.Path.{sym}
use Rattle.std.proofs.lemmas.Result.{err_from_is_err_and}
use Rattle.stream.proofs.Laws.{seek_passed, seek_refused}
use Rattle.stream.proofs.seek.Goals as goal

pub returns-in_err-pass : goal.returns-in_err-pass
returns-in_err-pass c = let p = err_from_is_err_and c.from_residual.result c.from_residual.ensures.1 in rw (p.1, p.2) (seek_refused _ _ _ _ (sym c.in_err-pass.ensures))

pub returns : goal.returns
returns c = rw (c.ok_or.ensures.value, c.refuse.ensures) (seek_passed _ _ _ _ (sym c.in_ok-pass.ensures))
