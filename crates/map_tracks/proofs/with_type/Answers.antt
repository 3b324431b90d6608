use mathlib.Core.Path.{sym, ◌∙◌}
use Rattle.map_tracks.proofs.with_type.Goals as goal

pub returns-then-is_listed : goal.returns-then-is_listed
returns-then-is_listed c = rw (sym c.is_listed.ensures ∙ c.if-is_listed.true, c.wide-k.ensures, c.bare.ensures, c.listed_byte.ensures)

pub returns : goal.returns
returns c = rw (sym c.is_listed.ensures ∙ c.if-is_listed.false)
