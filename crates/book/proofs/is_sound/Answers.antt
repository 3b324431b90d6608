use mathlib.Core.Path.{sym, ◌∙◌}
use Rattle.book.proofs.Laws.{sound_either}
use Rattle.book.proofs.is_sound.Goals as goal

pub returns-then-is_plain : goal.returns-then-is_plain
returns-then-is_plain c = c.if-is_plain.true ∙ sym (sound_either _ _ c.requires ∙ rw (sym c.is_plain.ensures ∙ c.if-is_plain.true))

pub returns-else-is_plain : goal.returns-else-is_plain
returns-else-is_plain c = c.is_doubled.ensures ∙ sym (sound_either _ _ c.requires ∙ rw (sym c.is_plain.ensures ∙ c.if-is_plain.false))
