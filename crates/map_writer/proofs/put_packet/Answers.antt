use native.Mathlib.Omega.{arith}
use mathlib.Core.Path.{◌∙◌}
use Rattle.map_given.proofs.Clean.{clean}
use Rattle.map_writer.proofs.Packet.{packet_runs}
use Rattle.map_writer.proofs.Puts.{filled}
use Prim.Native.Nat.{◌+◌}
use Rattle.map_writer.proofs.put_packet.Goals as goal

pub put_slots-requires : goal.put_slots-requires
put_slots-requires c = let p = c.requires in
    let g = clean _ _ _ p.3 in
    let e = p.1 in
    rw g.words (omega arith, omega (arith, p.0, c.put_be.auto.out, c.put_front.auto.out), g.material)

pub put_tracks-requires : goal.put_tracks-requires
put_tracks-requires c = let p = c.requires in
    let g = clean _ _ _ p.3 in
    let e = p.2 in
    (omega (arith, p.0, c.put_be-2.auto.out, c.put_slots.auto.out, c.put_be.auto.out, c.put_front.auto.out), g.tracks, g.ids)

pub returns : goal.returns
returns c = let a = c.args in
    let p = c.requires in
    let e = c.padding_of-pad.ensures in
    filled c.put_tracks.new.out c.fill.new.self (22 + a.m + a.t) c.padding_of-pad.result (omega (arith, p.0, e, c.put_tracks.auto.out, c.put_be-2.auto.out, c.put_slots.auto.out, c.put_be.auto.out, c.put_front.auto.out)) (c.fill.ensures.after (λ y z. z))
    ∙ rw (c.put_tracks.ensures, c.put_be-2.ensures, c.put_slots.ensures, (clean _ _ _ p.3).words, c.put_be.ensures, c.put_front.ensures)
    (packet_runs a.text.now a.material.now a.tracks.now (clean _ _ _ p.3) a.out.now a.m a.t _ p.1 p.2 e)
