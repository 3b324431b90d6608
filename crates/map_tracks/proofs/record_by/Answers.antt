use borrow.Author.Rules.{rules}
use native.Mathlib.Omega.{arith}
use Prim.Native.Nat.{◌+◌}
use mathlib.Core.Path.{refl, sym, ap, ◌∙◌}
use native.Mathlib.Nat.{add-zero, add-sub_cancel_left}
use lib.ListN.{drop}
use Rattle.std.specs.Prelude.{Some}
use Rattle.map_tracks.specs.Tracks.{split_tracks, listed, is_listed}
use Rattle.map_tracks.specs.Inside.{keyed_of}
use Rattle.map_tracks.proofs.Listed.{start, on_done, on_short, on_over, on_track_lem, pass_other, pass_listed, here}
use Rattle.map_tracks.proofs.record_by.Goals as goal

pub loop-at-init : goal.loop-at-init
loop-at-init c = (search rules, search rules, start _ _ _ (rw add-zero))

pub returns-then-left-lt4 : goal.returns-then-left-lt4
unfolding keyed_of listed
returns-then-left-lt4 c = sym (on_short _ _ _ _ c.loop-at.invariant.2 c.loop-at-test.true c.if-left-lt4.true)

pub returns-then-left-n : goal.returns-then-left-n
unfolding keyed_of listed
returns-then-left-n c = sym (on_over _ _ _ _ c.loop-at.invariant.2 c.if-left-lt4.false _ c.be_at-n.ensures c.if-left-n.true)

pub returns-then-key-wanted : goal.returns-then-key-wanted
unfolding is_listed
returns-then-key-wanted c = let a = c.args in let i = c.loop-at in let n = c.be_at-n.result in
    let l = on_track_lem _ _ _ _ i.invariant.2 c.if-left-lt4.false _ c.be_at-n.ensures c.if-left-n.false _ (λ ds. refl) in
    sym (l.same ∙ here a.s.now a.base i.at n c.if-left-n.false a.named i.before a.wanted (sym c.key.ensures ∙ c.if-key-wanted.true) (sym c.is_listed.ensures ∙ c.if-is_listed.true) (split_tracks l.fuel (drop (i.at + 4 + n) a.s.now)).list
    ∙ ap Some (sym (rw add-sub_cancel_left at c.«record».ensures)))

pub loop-at-preserved-else-key-wanted : goal.loop-at-preserved-else-key-wanted
unfolding is_listed
loop-at-preserved-else-key-wanted c = let a = c.args in let i = c.loop-at in (
  omega arith,
  omega arith,
  on_track_lem _ _ _ _ i.invariant.2 c.if-left-lt4.false _ c.be_at-n.ensures c.if-left-n.false _
      (pass_listed a.s.now a.base i.at c.be_at-n.result c.if-left-n.false a.named i.before a.wanted (λ z. c.if-key-wanted.false (c.key.ensures ∙ z)) (sym c.is_listed.ensures ∙ c.if-is_listed.true)),
)

pub loop-at-preserved : goal.loop-at-preserved
unfolding is_listed
loop-at-preserved c = let a = c.args in let i = c.loop-at in (
  omega arith,
  omega arith,
  on_track_lem _ _ _ _ i.invariant.2 c.if-left-lt4.false _ c.be_at-n.ensures c.if-left-n.false _
      (pass_other a.s.now a.base i.at c.be_at-n.result c.if-left-n.false a.named i.before a.wanted (sym c.is_listed.ensures ∙ c.if-is_listed.false)),
)

pub returns : goal.returns
unfolding keyed_of listed
returns c = sym (on_done _ _ _ _ c.loop-at.invariant.2 c.loop-at-test.false)
