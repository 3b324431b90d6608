use native.Mathlib.Omega.{arith}
use mathlib.Core.Path.{refl, ◌∙◌, ap}
use Rattle.map_given.proofs.Laws.{track_slots}
use Rattle.map_writer.specs.Inside.{slots_size}
use Rattle.map_writer.proofs.PutTracks.{track_clean, track_narrow, track_type, track_room, tracks_turn, tracks_done}
use Rattle.map_writer.proofs.Bounds.{track_most}
use Rattle.map_given.proofs.Clean.{ids_narrow}
use Rattle.map_writer.proofs.put_tracks.Goals as goal

pub loop-track-init : goal.loop-track-init
loop-track-init c = let p = c.requires in let e = c.into_iter-track-iterator.ensures.into_iter_gives in let f = c.chunks_exact-track-items.ensures in
    rw (e, f.rest) (f.size, record { room = p.0; clean = p.1; narrow = ids_narrow _ _ p.2; long = refl; same = refl })

pub slots_size-size-requires : goal.slots_size-size-requires
slots_size-size-requires c = let i = c.loop-track.invariant in let s = c.in-Some.ensures.steps in let h = s.1.1 ∙ i.0 in
    rw (track_slots c.in-Some.track.now 0x4C h) (omega arith, omega (arith, track_most c.args.text.now c.in-Some.track.now 0 (track_clean _ _ _ _ _ _ _ h (rw s.1.0 at i.1)).0))

pub put_track-requires : goal.put_track-requires
put_track-requires c = let i = c.loop-track.invariant in let s = c.in-Some.ensures.steps in let h = s.1.1 ∙ i.0 in let l = rw s.1.0 at i.1 in
    let z = track_room _ _ _ _ _ _ _ h l in
    let n = l.long in
    let e = c.slots_size-size.ensures ∙ ap slots_size (track_slots c.in-Some.track.now 0x4C h) in
    (h, e, omega arith, (track_clean _ _ _ _ _ _ _ h l).1, track_type _ _ _ _ _ _ _ h l, (track_narrow _ _ _ _ _ _ _ h l).0)

pub overflow_add-to : goal.overflow_add-to
overflow_add-to c = let i = c.loop-track.invariant in let s = c.in-Some.ensures.steps in
    let z = track_room _ _ _ _ _ _ _ (s.1.1 ∙ i.0) (rw s.1.0 at i.1) in
    let e = c.slots_size-size.ensures ∙ ap slots_size (track_slots c.in-Some.track.now 0x4C (s.1.1 ∙ i.0)) in
    omega (arith, c.ranges)

pub overflow_add-to-in-loop-track : goal.overflow_add-to-in-loop-track
overflow_add-to-in-loop-track c = let i = c.loop-track.invariant in let s = c.in-Some.ensures.steps in
    let z = track_room _ _ _ _ _ _ _ (s.1.1 ∙ i.0) (rw s.1.0 at i.1) in
    let e = c.slots_size-size.ensures ∙ ap slots_size (track_slots c.in-Some.track.now 0x4C (s.1.1 ∙ i.0)) in
    omega (arith, c.ranges)

pub loop-track-preserved : goal.loop-track-preserved
loop-track-preserved c = let i = c.loop-track.invariant in let s = c.in-Some.ensures.steps in let l = rw s.1.0 at i.1 in
    (s.0 ∙ i.0, rw (c.slots_size-size.ensures, track_slots c.in-Some.track.now 0x4C (s.1.1 ∙ i.0)) (tracks_turn _ _ _ _ _ _ _ (s.1.1 ∙ i.0) l _ (c.put_track.auto.out ∙ l.long) c.put_track.ensures))

pub returns : goal.returns
returns c = let i = c.loop-track.invariant in let s = c.in-None.ensures.steps in
    tracks_done _ _ _ _ _ _ (omega (arith, s.1.0, i.0)) i.1
