use borrow.Author.Rules.{rules}
use native.Mathlib.Omega.{arith}
use mathlib.Core.Path.{sym, ◌∙◌}
use native.Mathlib.Nat.{add-sub_cancel_left}
use Rattle.map_items.proofs.Judged.{start, on_done, on_short, on_over, on_fault, on_unknown, on_twice, on_next, known_range}
use Rattle.map_items.proofs.judge.Goals as goal

pub loop-at-init : goal.loop-at-init
loop-at-init c = (search rules, search rules, start _ _ _)

pub returns-then-left-lt2 : goal.returns-then-left-lt2
returns-then-left-lt2 c = c.refused.ensures ∙ on_short _ _ _ _ _ c.loop-at.invariant.2 c.loop-at-test.true c.if-left-lt2.true

pub returns-then-left-n : goal.returns-then-left-n
returns-then-left-n c = c.refused-then-left-n.ensures ∙ on_over _ _ _ _ _ c.loop-at.invariant.2 c.if-left-lt2.false _ c.wide-n.ensures c.if-left-n.true

pub returns-in-Some : goal.returns-in-Some
returns-in-Some c = c.refused-in-Some.ensures
    ∙ on_fault _ _ _ _ _ c.loop-at.invariant.2 c.if-left-lt2.false _ c.wide-n.ensures c.if-left-n.false _ (rw (c.asked_of-asked.ensures, add-sub_cancel_left) at c.fault.ensures) _ c.in-Some.is

pub overflow_sub-k : goal.overflow_sub-k
overflow_sub-k c = let k = known_range _ _ (sym (rw c.asked_of-asked.ensures at c.is_known.ensures) ∙ c.if-is_known.true) in let w = c.wide-k.ensures ∙ c.counts_as.ensures in omega arith

pub bounds-seen-k : goal.bounds-seen-k
bounds-seen-k c = let k = known_range _ _ (sym (rw c.asked_of-asked.ensures at c.is_known.ensures) ∙ c.if-is_known.true) in let w = c.wide-k.ensures ∙ c.counts_as.ensures in omega arith

pub returns-then-seen-k : goal.returns-then-seen-k
returns-then-seen-k c = let k = known_range _ _ (sym (rw c.asked_of-asked.ensures at c.is_known.ensures) ∙ c.if-is_known.true) in let w = c.wide-k.ensures ∙ c.counts_as.ensures in
    c.refused-then-seen-k.ensures
    ∙ on_twice _ _ _ _ _ c.loop-at.invariant.2 c.if-left-lt2.false _ c.wide-n.ensures c.if-left-n.false _ (rw (c.asked_of-asked.ensures, add-sub_cancel_left) at c.fault.ensures) c.in_default.is
    _ (rw c.asked_of-asked.ensures at c.is_known.ensures) c.if-is_known.true _ w (omega arith) (omega arith) c.if-seen-k.true

pub bounds-seen-k-then-is_known : goal.bounds-seen-k-then-is_known
bounds-seen-k-then-is_known c = let k = known_range _ _ (sym (rw c.asked_of-asked.ensures at c.is_known.ensures) ∙ c.if-is_known.true) in let w = c.wide-k.ensures ∙ c.counts_as.ensures in omega arith

pub loop-at-preserved-else-seen-k : goal.loop-at-preserved-else-seen-k
loop-at-preserved-else-seen-k c = let k = known_range _ _ (sym (rw c.asked_of-asked.ensures at c.is_known.ensures) ∙ c.if-is_known.true) in let w = c.wide-k.ensures ∙ c.counts_as.ensures in (
  omega arith,
  search rules,
  on_next _ _ _ _ _ c.loop-at.invariant.2 c.if-left-lt2.false _ c.wide-n.ensures c.if-left-n.false _ (rw (c.asked_of-asked.ensures, add-sub_cancel_left) at c.fault.ensures) c.in_default.is
      _ (rw c.asked_of-asked.ensures at c.is_known.ensures) c.if-is_known.true _ w (omega arith) (omega arith) c.loop-at.invariant.1 c.if-seen-k.false,
)

pub loop-at-preserved : goal.loop-at-preserved
loop-at-preserved c = (
  omega arith,
  c.loop-at.invariant.1,
  on_unknown _ _ _ _ _ c.loop-at.invariant.2 c.if-left-lt2.false _ c.wide-n.ensures c.if-left-n.false _ (rw (c.asked_of-asked.ensures, add-sub_cancel_left) at c.fault.ensures) c.in_default.is
      _ (rw c.asked_of-asked.ensures at c.is_known.ensures) c.if-is_known.false,
)

pub returns : goal.returns
returns c = on_done _ _ _ _ _ c.loop-at.invariant.2 c.loop-at-test.false
