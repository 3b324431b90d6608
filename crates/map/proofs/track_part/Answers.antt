use borrow.Author.Rules.{rules}
use native.Mathlib.Omega.{arith}
use mathlib.Core.Path.{sym, ◌∙◌}
use Rattle.map.proofs.Laws.{both_within}
use Rattle.map.proofs.track_part.Goals as goal

pub overflow_add-result : goal.overflow_add-result
overflow_add-result c = let w = both_within _ _ _ (sym c.layout_of.ensures ∙ c.in-Both.is) in omega arith

pub slice_bounds-result-count : goal.slice_bounds-result-count
slice_bounds-result-count c = let w = both_within _ _ _ (sym c.layout_of.ensures ∙ c.in-Both.is) in omega arith

pub slice_bounds-result-start : goal.slice_bounds-result-start
slice_bounds-result-start c = let w = both_within _ _ _ (sym c.layout_of.ensures ∙ c.in-Both.is) in omega arith

pub slice_bounds-result-end : goal.slice_bounds-result-end
slice_bounds-result-end c = let w = both_within _ _ _ (sym c.layout_of.ensures ∙ c.in-Both.is) in omega arith

pub returns-in-Both : goal.returns-in-Both
returns-in-Both c = rw (sym c.layout_of.ensures ∙ c.in-Both.is)

pub returns-in_default : goal.returns-in_default
returns-in_default c = rw (sym c.layout_of.ensures) (search rules)
