use mathlib.Core.Path.{sym, ◌∙◌}
use borrow.Author.Tests.{eq-eqb, ne_eqb}
use Rattle.piece.specs.Inside.{media_len}
use Rattle.piece.proofs.media_len.Goals as goal

pub returns-in-Ok : goal.returns-in-Ok
unfolding media_len
returns-in-Ok c = simp (sym c.header.ensures ∙ c.in-Ok.is, eq-eqb _ _ c.if-w.true)

pub returns-in_default : goal.returns-in_default
unfolding media_len
returns-in_default c = simp (sym c.header.ensures ∙ c.in-Ok.is, ne_eqb _ _ c.if-w.false)

pub returns-in_default-2 : goal.returns-in_default-2
unfolding media_len
returns-in_default-2 c = simp (sym c.header.ensures ∙ c.in_default.is)
