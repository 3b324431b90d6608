use mathlib.Core.Path.{sym, ◌∙◌}
use borrow.Author.Tests.{eq-eqb, ne_eqb}
use Rattle.order.proofs.step_as.Goals as goal

pub returns-then-is_misplaced : goal.returns-then-is_misplaced
returns-then-is_misplaced c = rw (sym c.is_misplaced.ensures ∙ c.if-is_misplaced.true, c.refuse.ensures)

pub returns-then-is_overdue : goal.returns-then-is_overdue
returns-then-is_overdue c = rw (sym c.is_misplaced.ensures ∙ c.if-is_misplaced.false, sym c.is_overdue.ensures ∙ c.if-is_overdue.true, c.refuse-then-is_overdue.ensures)

pub returns-then-is_unmapped : goal.returns-then-is_unmapped
returns-then-is_unmapped c = rw (sym c.is_misplaced.ensures ∙ c.if-is_misplaced.false, sym c.is_overdue.ensures ∙ c.if-is_overdue.false, sym c.is_unmapped.ensures ∙ c.if-is_unmapped.true, c.refuse-then-is_unmapped.ensures)

pub returns-then-packet_type-eq-EOS : goal.returns-then-packet_type-eq-EOS
returns-then-packet_type-eq-EOS c = rw (
  sym c.is_misplaced.ensures ∙ c.if-is_misplaced.false,
  sym c.is_overdue.ensures ∙ c.if-is_overdue.false,
  sym c.is_unmapped.ensures ∙ c.if-is_unmapped.false,
  eq-eqb _ _ c.if-packet_type-eq-EOS.true,
) c.at_end.ensures

pub returns : goal.returns
returns c = rw (
  sym c.is_misplaced.ensures ∙ c.if-is_misplaced.false,
  sym c.is_overdue.ensures ∙ c.if-is_overdue.false,
  sym c.is_unmapped.ensures ∙ c.if-is_unmapped.false,
  ne_eqb _ _ c.if-packet_type-eq-EOS.false,
  c.passed.ensures,
)
