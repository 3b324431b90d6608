use Rattle.map_given.specs.Faults.{own_fault}
use mathlib.Core.Path.{sym, ◌∙◌}
use Rattle.map_given.proofs.Laws.{gives_4_d, gives_4_f}
use Rattle.map_given.proofs.own_fault.Goals.{then-not-is_known-via-then-not-is_known, then-not-is_known-via-else-not-is_known+then-is_barred, else-is_given-via-then-is_given+else-is_given-2, else-is_given-via-else-is_given}
use Rattle.map_given.proofs.own_fault.Goals as goal

pub returns-then-not-is_known : goal.returns-then-not-is_known
unfolding own_fault
returns-then-not-is_known c =
    elim c.then-not-is_known.branch [
      | then-not-is_known-via-then-not-is_known w ↦ simp (sym c.is_known.ensures ∙ w.if-not-is_known.true)
      | then-not-is_known-via-else-not-is_known+then-is_barred w ↦ simp (sym c.is_known.ensures ∙ w.if-not-is_known.false, sym w.is_barred.ensures ∙ w.if-is_barred.true)
    ]

pub returns-then-is_given-2 : goal.returns-then-is_given-2
unfolding own_fault
returns-then-is_given-2 c = simp (gives_4_d, gives_4_f, sym c.is_known.ensures ∙ c.if-not-is_known.false, sym c.is_barred.ensures ∙ c.if-is_barred.false, sym c.is_given.ensures ∙ c.if-is_given.true, sym c.is_given-then-is_given.ensures ∙ c.if-is_given-2.true)

pub returns : goal.returns
unfolding own_fault
returns c =
    elim c.else-is_given.branch [
      | else-is_given-via-then-is_given+else-is_given-2 w ↦ simp (gives_4_d, gives_4_f, sym c.is_known.ensures ∙ c.if-not-is_known.false, sym c.is_barred.ensures ∙ c.if-is_barred.false, sym c.is_given.ensures ∙ w.if-is_given.true, sym w.is_given-then-is_given.ensures ∙ w.if-is_given-2.false)
      | else-is_given-via-else-is_given w ↦ simp (gives_4_d, sym c.is_known.ensures ∙ c.if-not-is_known.false, sym c.is_barred.ensures ∙ c.if-is_barred.false, sym c.is_given.ensures ∙ w.if-is_given.false)
    ]
