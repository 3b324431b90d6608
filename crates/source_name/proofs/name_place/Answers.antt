use mathlib.Core.Path.{sym}
use Rattle.std.proofs.lemmas.Result.{err_from_is_err_and}
use Rattle.source_name.specs.SourceName.{name_at}
use Rattle.source_name.proofs.name_place.Goals as goal

pub returns-in_err-segment_at : goal.returns-in_err-segment_at
unfolding name_at
returns-in_err-segment_at c = let p = err_from_is_err_and c.from_residual.result c.from_residual.ensures.1 in rw (p.1, p.2) (simp (sym c.in_err-segment_at.ensures))

pub returns : goal.returns
unfolding name_at
returns c = simp (sym c.in_ok-segment_at.ensures)
