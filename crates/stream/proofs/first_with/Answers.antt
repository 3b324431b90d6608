use mathlib.Core.Path.{sym, ap, ◌∙◌}
use mathlib.Core.Bool.{not}
use Rattle.stream.proofs.Laws.{first_alone, none_yet, one_already}
use Rattle.stream.proofs.first_with.Goals as goal
use Rattle.stream.proofs.first_with.Goals.{else-is_none-via-then-is_none+else-carries, else-is_none-via-else-is_none}

pub returns-then-carries : goal.returns-then-carries
returns-then-carries c = sym (none_yet c.args.first _ (c.is_none.ensures ∙ ap not c.if-is_none.true) ∙ rw (sym c.carries.ensures ∙ c.if-carries.true))

pub returns : goal.returns
returns c =
    elim c.else-is_none.branch [
      | else-is_none-via-then-is_none+else-carries w ↦ rw (sym w.carries.ensures ∙ w.if-carries.false) (sym (first_alone _))
      | else-is_none-via-else-is_none w ↦ sym (one_already c.args.first _ (c.is_none.ensures ∙ ap not w.if-is_none.false))
    ]
