use mathlib.Core.Path.{◌∙◌}
use Rattle.number.proofs.Laws.{be_turned}
use Rattle.number.proofs.be4.Goals as goal

pub returns : goal.returns
returns c = c.from_be_bytes.ensures ∙ be_turned _ c.type_inv.s _
