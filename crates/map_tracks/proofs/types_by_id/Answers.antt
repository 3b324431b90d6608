use borrow.Author.Rules.{rules}
use native.Mathlib.Omega.{arith}
use native.Mathlib.Nat.{add-sub_cancel_left}
use mathlib.Core.Path.{refl, sym, ◌∙◌}
use Rattle.map_tracks.specs.Tracks.{types_of, is_listed}
use Rattle.map_tracks.proofs.Listed.{start, on_done, on_short, on_over, on_track_lem, type_turn}
use Rattle.map_tracks.proofs.types_by_id.Goals as goal

pub loop-at-init : goal.loop-at-init
loop-at-init c = (search rules, start _ _ _ refl)

pub returns-then-left-lt4 : goal.returns-then-left-lt4
unfolding types_of
returns-then-left-lt4 c = sym (on_short _ _ _ _ c.loop-at.invariant.1 c.loop-at-test.true c.if-left-lt4.true)

pub returns-then-left-n : goal.returns-then-left-n
unfolding types_of
returns-then-left-n c = sym (on_over _ _ _ _ c.loop-at.invariant.1 c.if-left-lt4.false _ c.be_at-n.ensures c.if-left-n.true)

pub loop-at-preserved : goal.loop-at-preserved
unfolding is_listed
loop-at-preserved c = (omega arith, on_track_lem _ _ _ _ c.loop-at.invariant.1 c.if-left-lt4.false _ c.be_at-n.ensures c.if-left-n.false _ (λ ds. type_turn _ _ ds ∙ rw (← (rw add-sub_cancel_left at c.with_type-table.ensures))))

pub returns : goal.returns
unfolding types_of
returns c = sym (on_done _ _ _ _ c.loop-at.invariant.1 c.loop-at-test.false)
