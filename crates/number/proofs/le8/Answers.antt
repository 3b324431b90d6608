use mathlib.Core.Path.{◌∙◌}
use Rattle.number.proofs.Laws.{le-eight}
use Rattle.number.proofs.le8.Goals as goal

pub returns : goal.returns
returns c = c.from_le_bytes.ensures ∙ le-eight _ _
