use native.Mathlib.Omega.{arith}
use mathlib.Core.Path.{sym, ◌∙◌}
use mathlib.Core.Logic.{inl, inr}
use borrow.Author.Tests.{eqb-true, eqb-false}
use Rattle.mpeg_decimal.proofs.Laws.{more, digit_is, numeral_start, numeral_none, digits_turn, digits_end}
use Rattle.mpeg_decimal.proofs.numeral.Goals.{then-is_empty-via-then-is_empty, then-is_empty-via-else-is_empty+then-most-v}
use Rattle.mpeg_decimal.proofs.numeral.Goals as goal

pub returns-then-is_empty : goal.returns-then-is_empty
returns-then-is_empty c =
    numeral_none _ _
    (elim c.then-is_empty.branch [
      | then-is_empty-via-then-is_empty w ↦ inl (let e = eqb-true _ _ (sym w.if-is_empty.ensures) in omega arith)
      | then-is_empty-via-else-is_empty+then-most-v w ↦ inr w.if-most-v.true
    ])

pub loop-b-init : goal.loop-b-init
loop-b-init c = (omega arith, numeral_start _ _ (let e = eqb-false _ _ (sym c.if-is_empty.ensures) in omega arith) c.if-most-v.false)

pub returns-then-not-is_ascii_digit : goal.returns-then-not-is_ascii_digit
returns-then-not-is_ascii_digit c = sym (c.loop-b.invariant.1 ∙ digits_turn _ _ _ c.loop-b-test.true ∙ simp (← digit_is, sym c.is_ascii_digit.ensures.value ∙ c.if-not-is_ascii_digit.true))

pub loop-b-preserved : goal.loop-b-preserved
loop-b-preserved c = let l = c.loop-b in (
  more l.b-index l.invariant.0 (let d = c.if-not-is_ascii_digit.ensures.cases in omega arith),
  l.invariant.1 ∙ digits_turn _ _ _ c.loop-b-test.true ∙ simp (← digit_is, sym c.is_ascii_digit.ensures.value ∙ c.if-not-is_ascii_digit.false),
)

pub returns : goal.returns
returns c = sym (c.loop-b.invariant.1 ∙ digits_end _ _ _ c.loop-b-test.false)
