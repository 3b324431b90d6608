use Rattle.map_given.specs.Faults.{barred}
use mathlib.Core.Path.{sym, ◌∙◌}
use Rattle.map_items.proofs.Anywhere.{never}
use Rattle.map_given.proofs.Laws.{gives_4_d, gives_4_e, gives_4_f}
use Rattle.map_given.proofs.is_barred.Goals.{then-is_given, else-is_given}
use Rattle.map_given.proofs.is_barred.Goals as goal

pub returns-then-is_given-2 : goal.returns-then-is_given-2
unfolding barred
returns-then-is_given-2 c =
    elim c.if-is_given.branch [
      | then-is_given w ↦ simp (gives_4_d, sym c.has_null_name.ensures ∙ c.if-has_null_name.true, sym c.is_given.ensures ∙ w.if-is_given.true) c.if-is_given-2.true
      | else-is_given w ↦ simp (gives_4_d, gives_4_e, sym c.has_null_name.ensures ∙ c.if-has_null_name.true, sym c.is_given.ensures ∙ w.if-is_given.false, sym w.is_given-else-is_given.ensures ∙ sym w.value-is ∙ c.if-is_given-2.true) c.if-is_given-2.true
    ]

pub returns-else-is_given-2 : goal.returns-else-is_given-2
unfolding barred
returns-else-is_given-2 c =
    elim c.if-is_given.branch [
      | then-is_given w ↦ never (sym w.if-is_given.true ∙ sym w.value-is ∙ c.if-is_given-2.false)
      | else-is_given w ↦ simp (gives_4_d, gives_4_e, gives_4_f, sym c.has_null_name.ensures ∙ c.if-has_null_name.true, sym c.is_given.ensures ∙ w.if-is_given.false, sym w.is_given-else-is_given.ensures ∙ sym w.value-is ∙ c.if-is_given-2.false) c.is_given-else-is_given-2.ensures
    ]

pub returns-else-has_null_name : goal.returns-else-has_null_name
unfolding barred
returns-else-has_null_name c = simp (sym c.has_null_name.ensures ∙ c.if-has_null_name.false) c.if-has_null_name.false
