use borrow.Author.Rules.{rules}
use native.Mathlib.Omega.{arith}
use Prim.Native.Nat.{◌-◌}
use mathlib.Core.Path.{sym, ◌∙◌}
use native.Mathlib.Nat.{add-zero, zero-add}
use lib.ListN.{get_or}
use Rattle.media_type.specs.MediaType.{known_type}
use Rattle.map_tracks.specs.Tracks.{listed, is_listed}
use Rattle.map_tracks.proofs.Listed.{start, on_done, on_short, on_over, on_track_lem, one_at_most, count_turn}
use Rattle.map_tracks.proofs.count.Goals as goal

pub loop-at-init : goal.loop-at-init
loop-at-init c = (search rules, search rules, start _ _ _ (rw zero-add))

pub returns-then-left-lt4 : goal.returns-then-left-lt4
unfolding listed
returns-then-left-lt4 c = sym (on_short _ _ _ _ c.loop-at.invariant.2 c.loop-at-test.true c.if-left-lt4.true ∙ add-zero _)

pub returns-then-left-n : goal.returns-then-left-n
unfolding listed
returns-then-left-n c = sym (on_over _ _ _ _ c.loop-at.invariant.2 c.if-left-lt4.false _ c.be_at-n.ensures c.if-left-n.true ∙ add-zero _)

pub overflow_add-found : goal.overflow_add-found
overflow_add-found c = let o = c.one_if_listed-found.ensures in let m = one_at_most (known_type (get_or c.args.s.now c.loop-at.at 0 - 0x80)) in omega arith

pub loop-at-preserved : goal.loop-at-preserved
unfolding is_listed
loop-at-preserved c = let o = c.one_if_listed-found.ensures in
    let m = one_at_most (known_type (get_or c.args.s.now c.loop-at.at 0 - 0x80)) in
    (omega arith, omega arith, on_track_lem _ _ _ _ c.loop-at.invariant.2 c.if-left-lt4.false _ c.be_at-n.ensures c.if-left-n.false _ (λ ds. count_turn _ _ ds ∙ rw (← o)))

pub returns : goal.returns
unfolding listed
returns c = sym (on_done _ _ _ _ c.loop-at.invariant.2 c.loop-at-test.false ∙ add-zero _)
