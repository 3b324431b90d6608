use mathlib.Core.Path.{sym, ◌∙◌}
use borrow.Author.Tests.{eq-eqb, ne_eqb}
use Rattle.map_items.specs.Judge.{fault_of}
use Rattle.map_items.proofs.fault.Goals as goal

pub returns-in-Text : goal.returns-in-Text
unfolding fault_of
returns-in-Text c = simp (c.in-Text.is, sym c.is_text.ensures ∙ c.if-not-is_text.true)

pub returns-in-Sized : goal.returns-in-Sized
unfolding fault_of
returns-in-Sized c = simp (c.in-Sized.is, ne_eqb _ _ c.if-value-n.true)

pub returns-in_default : goal.returns-in_default
unfolding fault_of
returns-in_default c = simp (c.in-Text.is, sym c.is_text.ensures ∙ c.if-not-is_text.false)

pub returns-in_default-2 : goal.returns-in_default-2
unfolding fault_of
returns-in_default-2 c = simp (c.in-Sized.is, eq-eqb _ _ c.if-value-n.false)

pub returns-in_default-3 : goal.returns-in_default-3
unfolding fault_of
returns-in_default-3 c = simp c.in_default.is
