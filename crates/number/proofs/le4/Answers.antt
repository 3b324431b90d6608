use mathlib.Core.Path.{refl, ◌∙◌}
use Rattle.number.proofs.Laws.{le_four}
use Rattle.number.proofs.le4.Goals as goal

pub returns : goal.returns
returns c = c.from_le_bytes.ensures ∙ le_four _ _ _ _ _ _ refl refl refl refl
