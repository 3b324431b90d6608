use mathlib.Core.Path.{sym, ◌∙◌}
use Rattle.map_tracks.proofs.one_if_listed.Goals as goal

pub returns-then-is_listed : goal.returns-then-is_listed
returns-then-is_listed c = rw (sym c.is_listed.ensures ∙ c.if-is_listed.true)

pub returns-else-is_listed : goal.returns-else-is_listed
returns-else-is_listed c = rw (sym c.is_listed.ensures ∙ c.if-is_listed.false)
