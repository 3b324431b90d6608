use native.Mathlib.Omega.{arith}
use mathlib.Core.Path.{refl, ◌∙◌}
use lib.ListN.{length-set}
use Rattle.map_given.proofs.Ids.{ids_start, ids_turn, ids_out}
use Rattle.map_given.proofs.ids_fault.Goals as goal

pub loop-track-init : goal.loop-track-init
loop-track-init c = let e = c.into_iter-track-iterator.ensures.into_iter_gives in let f = c.chunks_exact-track-items.ensures in
    rw (e, f.rest) (f.size, ids_start c.args.tracks.now)

pub loop-track-preserved-then-id-le63 : goal.loop-track-preserved-then-id-le63
loop-track-preserved-then-id-le63 c = let i = c.loop-track.invariant in let s = c.in-Some.ensures.steps in
    (s.0 ∙ i.0, ids_turn _ _ _ _ _ _ c.in-Some.track.now _ (s.1.1 ∙ i.0) (rw s.1.0 at i.1) c.graver_of-worst.ensures c.id_fault.ensures (length-set _ _ _ ∙ i.1.long) (λ h. refl) (λ h. absurd (omega arith)))

pub loop-track-preserved : goal.loop-track-preserved
loop-track-preserved c = let i = c.loop-track.invariant in let s = c.in-Some.ensures.steps in
    (s.0 ∙ i.0, ids_turn _ _ _ _ _ _ c.in-Some.track.now _ (s.1.1 ∙ i.0) (rw s.1.0 at i.1) c.graver_of-worst.ensures c.id_fault.ensures i.1.long (λ h. absurd (omega arith)) (λ h. refl))

pub returns : goal.returns
returns c = let i = c.loop-track.invariant in let s = c.in-None.ensures.steps in
    ids_out _ _ _ _ (omega (arith, s.1.0, i.0)) i.1
