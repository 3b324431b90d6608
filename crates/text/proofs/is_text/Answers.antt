use Rattle.std.proofs.Common.{rules, tests}
use mathlib.Core.Path.{sym, ◌∙◌}
use borrow.Author.Tests.{ne_eqb}
use Rattle.std.proofs.lemmas.Iterator.{YieldsList-from_slice}
use Rattle.std.proofs.lemmas.Iterator.Search.{all_from_yields_List}
use Rattle.text.proofs.Laws.{inner, text_empty, text_last, text_other}
use Rattle.text.proofs.is_text.Goals as goal

pub returns-in_default : goal.returns-in_default
returns-in_default c = sym (text_empty _ c.in_default.ensures.cases)

pub returns-then-last-eq0 : goal.returns-then-last-eq0
returns-then-last-eq0 c =
    all_from_yields_List inner _ _ _ c.all.ensures.ran (YieldsList-from_slice c.in-Some.front.now (search rules)) (λ x b q k. search (rules, tests))
    ∙ sym (rw c.in-Some.ensures.cases.0 (text_last _ _ c.if-last-eq0.true))

pub returns-else-last-eq0 : goal.returns-else-last-eq0
returns-else-last-eq0 c = ne_eqb _ _ c.if-last-eq0.false ∙ sym (rw c.in-Some.ensures.cases.0 (text_other _ _ c.if-last-eq0.false))
