use mathlib.Core.Path.{◌∙◌}
use Rattle.mpeg_scan.proofs.Laws.{alnum_is}
use Rattle.mpeg_scan.proofs.is_alnum.Goals as goal

pub returns : goal.returns
returns c = c.is_ascii_alphanumeric.ensures.value ∙ alnum_is c.args.b
