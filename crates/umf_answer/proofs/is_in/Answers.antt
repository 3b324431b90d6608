use mathlib.Core.Path.{◌∙◌}
use Rattle.umf_answer.proofs.Lists.{any_has}
use Rattle.umf_answer.proofs.is_in.Goals as goal

pub returns : goal.returns
returns c = c.contains.ensures.value ∙ any_has _ _
