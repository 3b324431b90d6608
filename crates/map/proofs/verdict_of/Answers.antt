use mathlib.Core.Path.{sym, ◌∙◌}
use borrow.Author.Tests.{lt-ltb, le-ltb, eq-eqb, ne_eqb}
use Rattle.map.specs.Map.{map_verdict, sections_verdict}
use Rattle.map.proofs.Laws.{both_within, one_within}
use Rattle.map.proofs.verdict_of.Goals as goal

pub returns-then-p-lt18 : goal.returns-then-p-lt18
unfolding map_verdict
returns-then-p-lt18 c = rw (lt-ltb _ _ c.if-p-lt18.true) c.refused.ensures

pub returns-then-p : goal.returns-then-p
unfolding map_verdict
returns-then-p c = rw (le-ltb _ _ c.if-p-lt18.false, ne_eqb _ _ c.if-p.true) c.refused-then-p.ensures

pub judge_both-requires : goal.judge_both-requires
judge_both-requires c = both_within _ _ _ (sym c.layout_of.ensures ∙ c.in-Both.is)

pub judge_one-requires : goal.judge_one-requires
judge_one-requires c = one_within _ _ (sym c.layout_of.ensures ∙ c.in-One.is)

pub returns-in-Both : goal.returns-in-Both
unfolding map_verdict sections_verdict
returns-in-Both c = rw (le-ltb _ _ c.if-p-lt18.false, eq-eqb _ _ c.if-p.false, sym c.layout_of.ensures ∙ c.in-Both.is) c.judge_both.ensures

pub returns-in-One : goal.returns-in-One
unfolding map_verdict sections_verdict
returns-in-One c = rw (le-ltb _ _ c.if-p-lt18.false, eq-eqb _ _ c.if-p.false, sym c.layout_of.ensures ∙ c.in-One.is) c.judge_one.ensures

pub returns-in-Neither : goal.returns-in-Neither
unfolding map_verdict sections_verdict
returns-in-Neither c = rw (le-ltb _ _ c.if-p-lt18.false, eq-eqb _ _ c.if-p.false, sym c.layout_of.ensures ∙ c.in-Neither.is) c.refused-in-Neither.ensures
