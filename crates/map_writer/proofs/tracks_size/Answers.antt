use native.Mathlib.Omega.{arith}
use mathlib.Core.Path.{ap, ◌∙◌}
use Rattle.std.specs.Slice.Iter.{chunks_exact_rest}
use Rattle.map_given.proofs.Laws.{track_slots}
use Rattle.map_writer.specs.Inside.{slots_size}
use Rattle.map_writer.proofs.Laws.{tracks_size_turn, tracks_size_out}
use Rattle.map_writer.proofs.tracks_size.Goals as goal

pub slots_size-requires : goal.slots_size-requires
slots_size-requires c = let i = c.loop-track.invariant in let s = c.in-Some.ensures.steps in let e = rw s.1.0 at i.1 in let l = s.1.1 ∙ i.0 in
    rw (track_slots c.in-Some.track.now 0x4C l) (omega arith, omega (arith, c.requires, tracks_size_turn c.in-Some.track.now (chunks_exact_rest c.next.new.self) l, e))

pub overflow_add-total : goal.overflow_add-total
overflow_add-total c = let i = c.loop-track.invariant in let s = c.in-Some.ensures.steps in let e = rw s.1.0 at i.1 in
    omega (arith, c.requires, tracks_size_turn c.in-Some.track.now (chunks_exact_rest c.next.new.self) (s.1.1 ∙ i.0), e, c.slots_size.ensures ∙ ap slots_size (track_slots c.in-Some.track.now 0x4C (s.1.1 ∙ i.0)))

pub overflow_add-total-in-loop-track : goal.overflow_add-total-in-loop-track
overflow_add-total-in-loop-track c = let i = c.loop-track.invariant in let s = c.in-Some.ensures.steps in let e = rw s.1.0 at i.1 in
    omega (arith, c.requires, tracks_size_turn c.in-Some.track.now (chunks_exact_rest c.next.new.self) (s.1.1 ∙ i.0), e, c.slots_size.ensures ∙ ap slots_size (track_slots c.in-Some.track.now 0x4C (s.1.1 ∙ i.0)))

pub loop-track-preserved : goal.loop-track-preserved
loop-track-preserved c = let i = c.loop-track.invariant in let s = c.in-Some.ensures.steps in let e = rw s.1.0 at i.1 in
    (s.0 ∙ i.0, omega (arith, tracks_size_turn c.in-Some.track.now (chunks_exact_rest c.next.new.self) (s.1.1 ∙ i.0), e, c.slots_size.ensures ∙ ap slots_size (track_slots c.in-Some.track.now 0x4C (s.1.1 ∙ i.0))))

pub returns : goal.returns
returns c = let i = c.loop-track.invariant in let s = c.in-None.ensures.steps in
    omega (arith, tracks_size_out (chunks_exact_rest c.loop-track.track-iterator) (omega (arith, s.1.0, i.0)), i.1)
