use mathlib.Core.Path.{sym, refl}
use lib.Seq.{length-take-le}
use Rattle.std.proofs.lemmas.Result.{err_from_is_err_and}
use Rattle.map_name.specs.Name.{opened_of}
use Rattle.map_name.proofs.Laws.{packet_within}
use Rattle.map_name.proofs.open_map.Goals as goal

pub slice_bounds-verdict_of-end : goal.slice_bounds-verdict_of-end
slice_bounds-verdict_of-end c = sym (length-take-le _ _ (packet_within _ _ _ (sym c.in_ok-w.ensures) refl))

pub returns-in_err-w : goal.returns-in_err-w
unfolding opened_of
returns-in_err-w c = let p = err_from_is_err_and c.from_residual.result c.from_residual.ensures.1 in rw (p.1, p.2) (rw (sym c.in_err-w.ensures))

pub returns-in_err-verdict_of : goal.returns-in_err-verdict_of
unfolding opened_of
returns-in_err-verdict_of c = let p = err_from_is_err_and c.from_residual-in_err-verdict_of.result c.from_residual-in_err-verdict_of.ensures.1 in rw (p.1, p.2) (rw (sym c.in_ok-w.ensures, sym c.in_err-verdict_of.ensures))

pub returns : goal.returns
unfolding opened_of
returns c = rw (sym c.in_ok-w.ensures, sym c.in_ok-verdict_of.ensures)
