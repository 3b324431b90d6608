use mathlib.Core.Path.{sym, ◌∙◌}
use Rattle.std.proofs.lemmas.Result.{err_from_is_err_and}
use Rattle.map.specs.Map.{answer_of}
use Rattle.map.proofs.answer_of.Goals as goal

pub returns-in_err-verdict_of : goal.returns-in_err-verdict_of
unfolding answer_of
returns-in_err-verdict_of c = let p = err_from_is_err_and c.from_residual.result c.from_residual.ensures.1 in rw (p.1, p.2) (rw (sym c.verdict_of.ensures ∙ c.in_err-verdict_of.was))

pub returns : goal.returns
unfolding answer_of
returns c = rw (sym c.verdict_of.ensures ∙ c.in_ok-verdict_of.was, c.count_of.ensures, c.material_of.ensures)
