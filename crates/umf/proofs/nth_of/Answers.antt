use mathlib.Core.Path.{sym, ◌∙◌}
use Rattle.std.proofs.lemmas.Result.{err_from_is_err_and}
use Rattle.umf.specs.Umf.{place_of}
use Rattle.umf.proofs.Laws.{placed}
use Rattle.umf.proofs.nth_of.Goals as goal

pub returns-in_err-verdict_of : goal.returns-in_err-verdict_of
unfolding place_of
returns-in_err-verdict_of c = let p = err_from_is_err_and c.from_residual.result c.from_residual.ensures.1 in rw (p.1, p.2) (simp (sym c.in_err-verdict_of.ensures))

pub returns : goal.returns
returns c = c.ok_or.ensures.value ∙ rw (c.nth_in.ensures, c.refuse.ensures, sym c.in_ok-verdict_of.ensures) (placed _)
