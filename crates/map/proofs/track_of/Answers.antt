use mathlib.Core.Path.{sym, ◌∙◌}
use Rattle.std.proofs.lemmas.Result.{err_from_is_err_and}
use Rattle.map.specs.Map.{track_in}
use Rattle.map.proofs.track_of.Goals as goal

pub returns-in_err-verdict_of : goal.returns-in_err-verdict_of
unfolding track_in
returns-in_err-verdict_of c = let p = err_from_is_err_and c.from_residual.result c.from_residual.ensures.1 in rw (p.1, p.2) (rw (sym c.verdict_of.ensures ∙ c.in_err-verdict_of.was))

pub returns : goal.returns
unfolding track_in
returns c = rw (c.ok_or.ensures.value, c.kth_of.ensures, c.refuse.ensures, sym c.verdict_of.ensures ∙ c.in_ok-verdict_of.was)
