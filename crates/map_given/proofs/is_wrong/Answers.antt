use mathlib.Core.Path.{sym, ◌∙◌}
use Rattle.map_given.proofs.Laws.{wrong_of_mpeg, wrong_of_other}
use Rattle.map_given.proofs.is_wrong.Goals.{then-is_mpeg, else-is_mpeg}
use Rattle.map_given.proofs.is_wrong.Goals as goal

pub returns : goal.returns
returns c = let a = c.args in
    elim c.if-is_mpeg.branch [
      | then-is_mpeg w ↦ c.is_given.ensures ∙ rw w.form-is (wrong_of_mpeg a.track.now 0 (sym c.is_mpeg.ensures ∙ w.if-is_mpeg.true))
      | else-is_mpeg w ↦ c.is_given.ensures ∙ rw w.form-is (wrong_of_other a.track.now 0 (sym c.is_mpeg.ensures ∙ w.if-is_mpeg.false))
    ]
