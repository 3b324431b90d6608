use mathlib.Core.Path.{sym}
use lib.Seq.{length-take-le}
use Rattle.std.proofs.lemmas.Result.{err_from_is_err_and}
use Rattle.map_name.specs.Name.{name_at}
use Rattle.map_name.proofs.Laws.{opened_within}
use Rattle.map_name.proofs.name_place.Goals as goal

pub slice_bounds-name_in-end : goal.slice_bounds-name_in-end
slice_bounds-name_in-end c = sym (length-take-le _ _ (opened_within _ _ (sym c.in_ok-n.ensures)))

pub returns-in_err-n : goal.returns-in_err-n
unfolding name_at
returns-in_err-n c = let p = err_from_is_err_and c.from_residual.result c.from_residual.ensures.1 in rw (p.1, p.2) (rw (sym c.in_err-n.ensures))

pub returns : goal.returns
unfolding name_at
returns c = rw (c.ok_or.ensures.value, c.name_in.ensures, c.refuse.ensures, sym c.in_ok-n.ensures)
