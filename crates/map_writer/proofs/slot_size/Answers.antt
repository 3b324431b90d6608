use native.Mathlib.Omega.{arith}
use borrow.Author.Tests.{lt-ltb, le-ltb, eq-eqb, ne_eqb}
use Rattle.map_given.specs.Faults.{is_eight}
use mathlib.Core.Path.{sym, ◌∙◌}
use Rattle.map_writer.specs.Inside.{slot_size}
use Rattle.map_writer.proofs.slot_size.Goals as goal

pub returns-then-s-ne-PRESENT : goal.returns-then-s-ne-PRESENT
unfolding slot_size
returns-then-s-ne-PRESENT c = simp (ne_eqb _ _ c.if-s-ne-PRESENT.true)

pub returns-then-s-gt254 : goal.returns-then-s-gt254
unfolding slot_size
returns-then-s-gt254 c = simp (eq-eqb _ _ c.if-s-ne-PRESENT.false, sym c.is_text.ensures ∙ c.if-is_text.true, lt-ltb _ _ c.if-s-gt254.true)

pub returns-else-s-gt254 : goal.returns-else-s-gt254
unfolding slot_size
returns-else-s-gt254 c = simp (eq-eqb _ _ c.if-s-ne-PRESENT.false, sym c.is_text.ensures ∙ c.if-is_text.true, le-ltb _ _ c.if-s-gt254.false)

pub returns-in-77 : goal.returns-in-77
unfolding slot_size is_eight
returns-in-77 c = simp (eq-eqb _ _ c.if-s-ne-PRESENT.false, sym c.is_text.ensures ∙ c.if-is_text.false, eq-eqb _ _ c.in-77.is)

pub returns-in_default-2 : goal.returns-in_default-2
unfolding slot_size is_eight
returns-in_default-2 c = simp (eq-eqb _ _ c.if-s-ne-PRESENT.false, sym c.is_text.ensures ∙ c.if-is_text.false, ne_eqb c.args.s.tag 0x4D (λ e. grind arith))
