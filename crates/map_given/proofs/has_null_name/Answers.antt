use mathlib.Core.Path.{sym, ◌∙◌}
use Rattle.map_given.proofs.Laws.{names_null}
use Rattle.map_given.proofs.has_null_name.Goals as goal

pub returns-then-is_given : goal.returns-then-is_given
returns-then-is_given c = simp (names_null, sym c.is_given.ensures ∙ c.if-is_given.true)

pub returns-else-is_given : goal.returns-else-is_given
returns-else-is_given c = simp (names_null, sym c.is_given.ensures ∙ c.if-is_given.false) c.if-is_given.false
