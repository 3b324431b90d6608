use native.Mathlib.Omega.{arith}
use mathlib.Core.Path.{◌∙◌, ap}
use Rattle.map_given.specs.Faults.{slots_fault}
use Rattle.map_given.proofs.Laws.{track_slots, tracks_fault_turn, tracks_fault_out}
use Rattle.map_given.proofs.tracks_fault.Goals as goal

pub loop-track-preserved : goal.loop-track-preserved
loop-track-preserved c = let i = c.loop-track.invariant in let s = c.in-Some.ensures.steps in
    (s.0 ∙ i.0, rw (c.graver_of-worst.ensures, c.graver_of.ensures) (tracks_fault_turn c.args.text.now c.in-Some.track.now _ _ c.loop-track.worst _ _ (s.1.1 ∙ i.0) (i.1 ∙ rw s.1.0) c.own_fault.ensures (c.slots_fault-inner.ensures ∙ ap (slots_fault c.args.text.now) (track_slots c.in-Some.track.now 0x4C (s.1.1 ∙ i.0)))))

pub returns : goal.returns
returns c = let i = c.loop-track.invariant in let s = c.in-None.ensures.steps in
    tracks_fault_out c.args.text.now _ _ c.loop-track.worst (omega (arith, s.1.0, i.0)) i.1
