use mathlib.Core.Path.{◌∙◌}
use Rattle.probe_records.proofs.fill.Goals as goal

pub returns : goal.returns
returns c = c.lend.ensures ∙ rw c.lent_of.ensures.0
