use mathlib.Core.Path.{sym, ◌∙◌}
use Rattle.map_aspect.proofs.Laws.{text_ratio}
use Rattle.map_aspect.proofs.of_text.Goals as goal

pub returns-in-Ok-Whole : goal.returns-in-Ok-Whole
returns-in-Ok-Whole c = rw (← text_ratio c.args.v.now, sym c.ratio.ensures ∙ c.in-Ok-Whole.is, c.in-Ok-Whole.field-0-is) c.of_number.ensures

pub returns-in-Ok-Rate : goal.returns-in-Ok-Rate
returns-in-Ok-Rate c = rw (← text_ratio c.args.v.now, sym c.ratio.ensures ∙ c.in-Ok-Rate.is, c.in-Ok-Rate.field-0-is)

pub returns-in-Err : goal.returns-in-Err
returns-in-Err c = rw (← text_ratio c.args.v.now, sym c.ratio.ensures ∙ c.in-Err.is)
