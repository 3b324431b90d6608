use mathlib.Core.Path.{◌∙◌}
use borrow.Author.Rules.{rules}
use Rattle.umf.proofs.Sections.{on_passed, on_whole, on_stopped, few}
use Rattle.umf.proofs.Payload.section_verdict.Goals as goal

pub returns-then-self-to : goal.returns-then-self-to
returns-then-self-to c = let s = c.section-section.ensures in c.refused.ensures ∙ on_passed _ _ _ _ s.0 s.2 c.if-self-to.true

pub returns-then-w : goal.returns-then-w
returns-then-w c = let s = c.section-section.ensures in
    on_whole _ _ _ _ s.0 s.2 c.if-self-to.false _ (rw c.count.ensures at c.walk-w.ensures) c.if-w.true

pub overflow_add-section-3 : goal.overflow_add-section-3
overflow_add-section-3 c = let s = c.section-section.ensures in
    let f = few _ _ _ _ s.0 s.2 c.if-self-to.false _ (rw c.count.ensures at c.walk-w.ensures) in
    search (rules, f)

pub returns : goal.returns
returns c = let s = c.section-section.ensures in
    c.refused-2.ensures ∙ on_stopped _ _ _ _ s.0 s.2 c.if-self-to.false _ (rw c.count.ensures at c.walk-w.ensures) c.if-w.false
