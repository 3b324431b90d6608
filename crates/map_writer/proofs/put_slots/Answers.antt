use native.Mathlib.Omega.{arith}
use mathlib.Core.Path.{◌≡◌, ◌∙◌, ap}
use lib.ListN.{length}
use Prim.Native.Nat.{◌/◌, ◌+◌, ◌*◌, ◌-◌}
use Rattle.map_writer.proofs.Puts.{slot_clean, slot_room, slots_turn, slots_done}
use Rattle.map_writer.specs.Inside.{slot_size}
use Rattle.map_writer.proofs.put_slots.Goals as goal

pub put_slot-requires : goal.put_slot-requires
put_slot-requires c = let l = c.loop-i in
    let z = slot_room _ _ _ _ _ _ _ _ _ (omega arith) l.invariant in
    let n = l.invariant.long in
    rw c.slot_at-s.ensures (omega arith, (slot_clean _ _ _ _ _ _ _ _ _ (omega arith) l.invariant).0)

pub overflow_add-to : goal.overflow_add-to
overflow_add-to c = let l = c.loop-i in
    let z = slot_room _ _ _ _ _ _ _ _ _ (omega arith) l.invariant in
    let e = c.slot_size-to.ensures ∙ ap slot_size c.slot_at-s.ensures in
    omega (arith, c.ranges)

pub loop-i-preserved : goal.loop-i-preserved
loop-i-preserved c = let l = c.loop-i in let a = c.args in let n = length a.words.now / 3 in
    let e : n - (l.i + 1) ≡ n - l.i - 1 = omega arith in
    let f : 3 * (l.i + 1) ≡ 3 * l.i + 3 = omega arith in
    let g : a.tag + (l.i + 1) ≡ a.tag + l.i + 1 = omega arith in
    rw (e, f, g, c.slot_size-to.ensures, c.slot_at-s.ensures)
    (slots_turn _ _ _ _ _ _ _ _ _ (omega arith) l.invariant _ (c.put_slot.auto.out ∙ l.invariant.long) (c.put_slot.ensures ∙ rw c.slot_at-s.ensures))

pub returns : goal.returns
returns c = slots_done _ _ _ _ _ _ _ _ _ (omega arith) c.loop-i.invariant
