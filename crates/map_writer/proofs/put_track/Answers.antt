use mathlib.Core.Path.{◌∙◌}
use Rattle.map_items.specs.Items.{items_bytes}
use Rattle.map_given.specs.Given.{slots, track_at}
use Rattle.map_writer.specs.Write.{items_of}
use native.Mathlib.Omega.{arith}
use Rattle.map_given.proofs.Laws.{track_slots}
use Rattle.map_writer.proofs.PutTracks.{track_bytes, track_run}
use Rattle.map_writer.proofs.put_track.Goals as goal

pub put_slots-requires : goal.put_slots-requires
put_slots-requires c = let p = c.requires in let e = p.1 in
    rw (track_slots c.args.track.now 0x4C p.0) (omega arith, omega (arith, c.put_be.auto.out, c.put_two.auto.out), p.3)

pub returns : goal.returns
returns c = let a = c.args in let p = c.requires in
    c.put_slots.ensures ∙ rw (track_slots a.track.now 0x4C p.0, c.put_be.ensures, c.put_two.ensures, p.1, track_bytes a.text.now (track_at a.track.now 0) p.3)
    (track_run a.out.now (items_bytes (items_of a.text.now (slots 7 a.track.now 2 0x4C))) a.pos _ _ _)
