use mathlib.Core.Path.{sym, ◌∙◌}
use borrow.Author.Tests.{lt-ltb, le-ltb}
use Rattle.mpeg.specs.Lines.{label_at}
use Rattle.mpeg.proofs.Turns.{first}
use Rattle.mpeg.proofs.label_at.Goals as goal

pub row_of-row-requires : goal.row_of-row-requires
row_of-row-requires c = rw c.alnum_end-e.ensures (first _ _ c.requires (rw c.alnum_end-e.ensures at c.if-at-e.true))

pub returns-then-is_space : goal.returns-then-is_space
unfolding label_at
returns-then-is_space c = simp (sym c.alnum_end-e.ensures, lt-ltb _ _ c.if-at-e.true, sym c.is_space.ensures ∙ c.if-is_space.true, c.row_of-row.ensures)

pub returns-else-is_space : goal.returns-else-is_space
unfolding label_at
returns-else-is_space c = simp (sym c.alnum_end-e.ensures, lt-ltb _ _ c.if-at-e.true, sym c.is_space.ensures ∙ c.if-is_space.false)

pub returns-else-at-e : goal.returns-else-at-e
unfolding label_at
returns-else-at-e c = simp (sym c.alnum_end-e.ensures, le-ltb _ _ c.if-at-e.false)
