use borrow.Author.Rules.{rules}
use borrow.Author.Tests.{eq-eqb, ne_eqb}
use Rattle.map_given.specs.Faults.{reads, slot_fault}
use mathlib.Core.Path.{sym, ◌∙◌}
use Rattle.map_given.proofs.Laws.{text_fits}
use native.Mathlib.Nat.{add-sub_cancel_left}
use Rattle.map_given.proofs.slot_fault.Goals.{then-s-ne-PRESENT-via-then-s-ne-PRESENT, then-s-ne-PRESENT-via-else-s-ne-PRESENT+then-not-slot_fits}
use Rattle.map_given.proofs.slot_fault.Goals as goal

pub returns-then-s-eq0 : goal.returns-then-s-eq0
unfolding slot_fault
returns-then-s-eq0 c = simp (eq-eqb _ _ c.if-s-eq0.true)

pub returns-then-s-ne-PRESENT : goal.returns-then-s-ne-PRESENT
unfolding slot_fault
returns-then-s-ne-PRESENT c =
    elim c.then-s-ne-PRESENT.branch [
      | then-s-ne-PRESENT-via-then-s-ne-PRESENT w ↦ simp (ne_eqb _ _ c.if-s-eq0.false, ne_eqb _ _ w.if-s-ne-PRESENT.true)
      | then-s-ne-PRESENT-via-else-s-ne-PRESENT+then-not-slot_fits w ↦ simp (ne_eqb _ _ c.if-s-eq0.false, eq-eqb _ _ w.if-s-ne-PRESENT.false, sym w.slot_fits.ensures ∙ w.if-not-slot_fits.true)
    ]

pub overflow_add-to : goal.overflow_add-to
overflow_add-to c = let h = text_fits _ _ (sym c.is_text.ensures ∙ c.if-is_text.true) (sym c.slot_fits.ensures ∙ c.if-not-slot_fits.false) in search rules

pub slice_bounds-reads_as_text-end : goal.slice_bounds-reads_as_text-end
slice_bounds-reads_as_text-end c = let h = text_fits _ _ (sym c.is_text.ensures ∙ c.if-is_text.true) (sym c.slot_fits.ensures ∙ c.if-not-slot_fits.false) in search rules

pub returns-then-not-reads_as_text : goal.returns-then-not-reads_as_text
unfolding slot_fault reads
returns-then-not-reads_as_text c = let e = rw add-sub_cancel_left at (sym c.reads_as_text.ensures ∙ c.if-not-reads_as_text.true) in
    simp (ne_eqb _ _ c.if-s-eq0.false, eq-eqb _ _ c.if-s-ne-PRESENT.false, sym c.slot_fits.ensures ∙ c.if-not-slot_fits.false, sym c.is_text.ensures ∙ c.if-is_text.true, e)

pub returns-else-not-reads_as_text : goal.returns-else-not-reads_as_text
unfolding slot_fault reads
returns-else-not-reads_as_text c = let e = rw add-sub_cancel_left at (sym c.reads_as_text.ensures ∙ c.if-not-reads_as_text.false) in
    simp (ne_eqb _ _ c.if-s-eq0.false, eq-eqb _ _ c.if-s-ne-PRESENT.false, sym c.slot_fits.ensures ∙ c.if-not-slot_fits.false, sym c.is_text.ensures ∙ c.if-is_text.true, e)

pub returns-else-is_text : goal.returns-else-is_text
unfolding slot_fault reads
returns-else-is_text c = simp (ne_eqb _ _ c.if-s-eq0.false, eq-eqb _ _ c.if-s-ne-PRESENT.false, sym c.slot_fits.ensures ∙ c.if-not-slot_fits.false, sym c.is_text.ensures ∙ c.if-is_text.false)
