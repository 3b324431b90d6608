use borrow.Author.Rules.{rules}
use native.Mathlib.Omega.{arith}
use Prim.Native.Nat.{◌+◌, ◌*◌}
use lib.ListN.{length}
use mathlib.Core.Path.{◌∙◌, sym, ap}
use Rattle.std.specs.Prelude.{Err}
use Rattle.packet_writer.proofs.Laws.{part_over, has_room}
use Rattle.locator_writer.specs.Write.{locator_packet}
use Rattle.locator_writer.proofs.Laws.{length-packet, barred, no_room, wrote}
use Rattle.locator_writer.proofs.write.Goals as goal

pub returns-then-lacks_room : goal.returns-then-lacks_room
returns-then-lacks_room c = let w = no_room _ _ _ _ (sym c.may_write.ensures ∙ c.if-not-may_write.false) (sym c.lacks_room.ensures ∙ c.if-lacks_room.true) in
    (ap Err c.refuse-then-lacks_room.ensures ∙ sym w.0, sym w.1)

pub slice_bounds-put_packet-count : goal.slice_bounds-put_packet-count
slice_bounds-put_packet-count c = let a = c.args in let h = has_room (length a.out.now) a.at (24 + 4 * length a.offsets.now) (sym c.lacks_room.ensures ∙ c.if-lacks_room.false) in omega arith

pub slice_bounds-put_packet-start : goal.slice_bounds-put_packet-start
slice_bounds-put_packet-start c = let a = c.args in let h = has_room (length a.out.now) a.at (24 + 4 * length a.offsets.now) (sym c.lacks_room.ensures ∙ c.if-lacks_room.false) in search rules

pub put_packet-requires : goal.put_packet-requires
put_packet-requires c = let a = c.args in let h = has_room (length a.out.now) a.at (24 + 4 * length a.offsets.now) (sym c.lacks_room.ensures ∙ c.if-lacks_room.false) in search rules

pub returns : goal.returns
returns c = let a = c.args in
    let l = length-packet a.step a.offsets.now in
    let h = has_room (length a.out.now) a.at (24 + 4 * length a.offsets.now) (sym c.lacks_room.ensures ∙ c.if-lacks_room.false) in
    let w = wrote a.out.now a.at a.step a.offsets.now (sym c.may_write.ensures ∙ c.if-not-may_write.false) (omega arith) in
    (sym w.0, rw c.put_packet.ensures (part_over a.out.now (locator_packet a.step a.offsets.now) a.at (omega arith)) ∙ sym w.1)

pub returns-then-not-may_write : goal.returns-then-not-may_write
returns-then-not-may_write c = let w = barred _ _ _ _ (sym c.may_write.ensures ∙ c.if-not-may_write.true) in
    (ap Err c.refuse.ensures ∙ sym w.0, sym w.1)
