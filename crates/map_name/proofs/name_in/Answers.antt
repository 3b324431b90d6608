use mathlib.Core.Path.{sym}
use Rattle.map_name.specs.Name.{unended, name_in}
use Rattle.map_name.proofs.name_in.Goals as goal

pub returns-in_err-track : goal.returns-in_err-track
unfolding name_in
returns-in_err-track c = rw c.from_residual.ensures (rw (sym c.in_err-track.ensures))

pub returns-in_err-name : goal.returns-in_err-name
unfolding name_in unended
returns-in_err-name c = rw c.from_residual-in_err-name.ensures (rw (sym c.in_ok-track.ensures, c.in_err-name.was))

pub returns : goal.returns
unfolding name_in unended
returns c = rw (sym c.in_ok-track.ensures, c.in_ok-name.was, c.saturating_sub.ensures)
