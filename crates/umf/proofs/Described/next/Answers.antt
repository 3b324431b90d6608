use native.Mathlib.Omega.{arith}
use borrow.Author.Tests.{le-leb}
use mathlib.Core.Path.{sym, ◌∙◌}
use lib.ListN.{length}
use Rattle.umf.specs.Split.{least_of, stated_of, step_of}
use Rattle.umf.proofs.Turns.{under, outside}
use Rattle.umf.proofs.Described.next.Goals as goal

pub returns-then-is_used : goal.returns-then-is_used
unfolding step_of
returns-then-is_used c = simp (sym c.is_used.ensures ∙ c.if-is_used.true)

pub returns-then-left-fixed : goal.returns-then-left-fixed
unfolding step_of
returns-then-left-fixed c = let a = c.args in
    simp (sym c.is_used.ensures ∙ c.if-is_used.false, under (least_of a.self) (length a.d.now) (stated_of a.self a.d.now) (omega (arith, c.if-left-fixed.true, c.least-fixed.ensures)))

pub returns-then-m-fixed : goal.returns-then-m-fixed
unfolding step_of
returns-then-m-fixed c = simp (sym c.least-fixed.ensures, sym c.stated-m.ensures, sym c.is_used.ensures ∙ c.if-is_used.false, outside _ _ _ c.then-m-fixed.either)

pub returns : goal.returns
unfolding step_of
returns c = simp (sym c.least-fixed.ensures, sym c.stated-m.ensures, sym c.is_used.ensures ∙ c.if-is_used.false, le-leb _ _ c.if-m-fixed.false, le-leb _ _ c.if-left-m.false)
