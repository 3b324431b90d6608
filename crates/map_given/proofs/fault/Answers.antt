use borrow.Author.Tests.{eq-eqb, ne_eqb}
use Rattle.map_given.specs.Faults.{fault_of}
use mathlib.Core.Path.{◌∙◌}
use Rattle.map_given.proofs.fault.Goals.{then-material-ne-MATERIAL_WORDS-via-then-material-ne-MATERIAL_WORDS, then-material-ne-MATERIAL_WORDS-via-else-material-ne-MATERIAL_WORDS+then-tracks-ne0}
use Rattle.map_given.proofs.fault.Goals as goal

pub returns-then-material-ne-MATERIAL_WORDS : goal.returns-then-material-ne-MATERIAL_WORDS
unfolding fault_of
returns-then-material-ne-MATERIAL_WORDS c =
    elim c.then-material-ne-MATERIAL_WORDS.branch [
      | then-material-ne-MATERIAL_WORDS-via-then-material-ne-MATERIAL_WORDS w ↦ simp (ne_eqb _ _ w.if-material-ne-MATERIAL_WORDS.true)
      | then-material-ne-MATERIAL_WORDS-via-else-material-ne-MATERIAL_WORDS+then-tracks-ne0 w ↦ simp (eq-eqb _ _ w.if-material-ne-MATERIAL_WORDS.false, ne_eqb _ _ w.if-tracks-ne0.true)
    ]

pub returns : goal.returns
unfolding fault_of
returns c = simp (eq-eqb _ _ c.if-material-ne-MATERIAL_WORDS.false, eq-eqb _ _ c.if-tracks-ne0.false)
    (c.graver_of.ensures ∙ rw (c.graver_of-inner.ensures, c.slots_fault.ensures, c.if-material-ne-MATERIAL_WORDS.false, c.tracks_fault.ensures, c.ids_fault.ensures))
