use mathlib.Core.Path.{sym, ◌∙◌}
use lib.Seq.{length-take-le}
use Rattle.std.proofs.lemmas.Result.{err_from_is_err_and}
use Rattle.map_name.specs.Name.{name_of_two_at}
use Rattle.map_name.proofs.Laws.{opened_within}
use Rattle.map_name.proofs.name_place_of_two.Goals as goal

pub slice_bounds-name_in-end : goal.slice_bounds-name_in-end
slice_bounds-name_in-end c = sym (length-take-le _ _ (opened_within _ _ (sym c.in_ok-n.ensures)))

pub slice_bounds-name_in-end-2 : goal.slice_bounds-name_in-end-2
slice_bounds-name_in-end-2 c = sym (length-take-le _ _ (opened_within _ _ (sym c.in_ok-k.ensures)))

pub returns-in_err-k : goal.returns-in_err-k
unfolding name_of_two_at
returns-in_err-k c = let p = err_from_is_err_and c.from_residual.result c.from_residual.ensures.1 in rw (p.1, p.2) (rw (sym c.in_err-k.ensures))

pub returns-in_err-n : goal.returns-in_err-n
unfolding name_of_two_at
returns-in_err-n c = let p = err_from_is_err_and c.from_residual-in_err-n.result c.from_residual-in_err-n.ensures.1 in rw (p.1, p.2) (rw (sym c.in_ok-k.ensures, sym c.in_err-n.ensures))

pub returns-in-Some : goal.returns-in-Some
unfolding name_of_two_at
returns-in-Some c = rw (sym c.in_ok-k.ensures, sym c.in_ok-n.ensures, sym c.name_in.ensures ∙ c.in-Some.is)

pub returns-in-Some-name_in : goal.returns-in-Some-name_in
unfolding name_of_two_at
returns-in-Some-name_in c = rw (sym c.in_ok-k.ensures, sym c.in_ok-n.ensures, sym c.name_in.ensures ∙ c.in_default.is, sym c.name_in-2.ensures ∙ c.in-Some-name_in.is)

pub returns-in-None : goal.returns-in-None
unfolding name_of_two_at
returns-in-None c = rw (sym c.in_ok-k.ensures, sym c.in_ok-n.ensures, sym c.name_in.ensures ∙ c.in_default.is, sym c.name_in-2.ensures ∙ c.in-None.is, c.refuse.ensures)
