use mathlib.Core.Path.{sym, ◌∙◌}
use Rattle.book_builder.proofs.records_of.Goals as goal

pub returns-then-is_recorded : goal.returns-then-is_recorded
returns-then-is_recorded c = rw (sym c.is_recorded.ensures ∙ c.if-is_recorded.true)

pub returns-else-is_recorded : goal.returns-else-is_recorded
returns-else-is_recorded c = rw (sym c.is_recorded.ensures ∙ c.if-is_recorded.false)
