use native.Mathlib.Omega.{arith}
use mathlib.Core.Path.{◌≡◌, sym, ◌∙◌, ap}
use Prim.Native.Nat.{ℕ, ◌+◌, ◌/◌}
use mathlib.Core.List.{List}
use Rattle.map_given.specs.Given.{slots, material_slots}
use Rattle.map_writer.specs.Inside.{slots_size}
use lib.ListN.{length, length-drop, length-take}
use Rattle.std.specs.Prelude.{Ok, Err}
use Rattle.packet_writer.proofs.Laws.{part_over, has_room}
use Rattle.map.proofs.Encoded.{padding_under}
use Rattle.map_writer.specs.Write.{map_packet}
use Rattle.map_writer.proofs.Bounds.{material_most, section_most}
use Rattle.map_given.proofs.Clean.{clean}
use Rattle.map_writer.proofs.Packet.{packet_size, faulty, wrong_formed, len, no_room, wrote}
use Rattle.map_writer.proofs.write.Goals as goal

-- the material's slots are six
as_material : (ms : List ℕ) → length ms ≡ 18 → slots_size (slots (length ms / 3) ms 0 0x40) ≡ slots_size (material_slots ms)
as_material ms e = rw e

pub returns-in-Some : goal.returns-in-Some
returns-in-Some c = let a = c.args in
    let w = faulty a.out.now a.at a.text.now a.material.now a.tracks.now c.in-Some.fault (sym c.in-Some.ensures) in
    (ap Err c.refuse.ensures ∙ sym w.0, sym w.1)

pub returns-then-any_wrong : goal.returns-then-any_wrong
returns-then-any_wrong c = let a = c.args in
    let w = wrong_formed a.out.now a.at a.text.now a.material.now a.tracks.now (sym c.in_default.ensures) (sym c.any_wrong.ensures ∙ c.if-any_wrong.true) in
    (ap Err c.refuse-then-any_wrong.ensures ∙ sym w.0, sym w.1)

pub slots_size-m-requires : goal.slots_size-m-requires
slots_size-m-requires c = let g = clean _ _ _ (sym c.in_default.ensures) in rw g.words (omega arith, omega (arith, material_most c.args.material.now))

pub tracks_size-t-requires : goal.tracks_size-t-requires
tracks_size-t-requires c = section_most _ _ _ (clean _ _ _ (sym c.in_default.ensures))

pub overflow_add-used : goal.overflow_add-used
overflow_add-used c = omega (arith, c.slots_size-m.ensures ∙ as_material _ (clean _ _ _ (sym c.in_default.ensures)).words, material_most c.args.material.now)

pub overflow_add-used-2 : goal.overflow_add-used-2
overflow_add-used-2 c = let g = section_most _ _ _ (clean _ _ _ (sym c.in_default.ensures)) in
    omega (arith, c.slots_size-m.ensures ∙ as_material _ (clean _ _ _ (sym c.in_default.ensures)).words, material_most c.args.material.now, c.tracks_size-t.ensures)

pub overflow_add-len : goal.overflow_add-len
overflow_add-len c = let g = section_most _ _ _ (clean _ _ _ (sym c.in_default.ensures)) in
    omega (arith, c.slots_size-m.ensures ∙ as_material _ (clean _ _ _ (sym c.in_default.ensures)).words, material_most c.args.material.now, c.tracks_size-t.ensures, c.padding_of.ensures, padding_under (22 + c.slots_size-m.result + c.tracks_size-t.result))

pub returns-then-lacks_room : goal.returns-then-lacks_room
returns-then-lacks_room c = let a = c.args in
    let e = rw (c.padding_of.ensures, c.slots_size-m.ensures ∙ as_material _ (clean _ _ _ (sym c.in_default.ensures)).words, c.tracks_size-t.ensures) at (sym c.lacks_room.ensures ∙ c.if-lacks_room.true) in
    let w = no_room a.out.now a.at a.text.now a.material.now a.tracks.now (sym c.in_default.ensures) (sym c.any_wrong.ensures ∙ c.if-any_wrong.false) e in
    (ap Err c.refuse-then-lacks_room.ensures ∙ sym w.0, sym w.1)

pub put_packet-requires : goal.put_packet-requires
put_packet-requires c = let h = has_room _ _ (22 + c.slots_size-m.result + c.tracks_size-t.result + c.padding_of.result) (sym c.lacks_room.ensures ∙ c.if-lacks_room.false) in
    (rw (← c.padding_of.ensures) (simp (length-take, length-drop) (omega arith)), c.slots_size-m.ensures ∙ as_material _ (clean _ _ _ (sym c.in_default.ensures)).words, c.tracks_size-t.ensures, sym c.in_default.ensures)

pub returns : goal.returns
returns c = let a = c.args in
    let f = sym c.in_default.ensures in
    let n = sym c.any_wrong.ensures ∙ c.if-any_wrong.false in
    let q : 22 + c.slots_size-m.result + c.tracks_size-t.result + c.padding_of.result ≡ len a.out.now a.at a.text.now a.material.now a.tracks.now f n = rw (c.padding_of.ensures, c.slots_size-m.ensures ∙ as_material _ (clean _ _ _ (sym c.in_default.ensures)).words, c.tracks_size-t.ensures) in
    let e = sym c.lacks_room.ensures ∙ c.if-lacks_room.false in
    let h = has_room (length a.out.now) a.at _ e in
    let g = packet_size a.text.now a.material.now a.tracks.now (clean _ _ _ f) in
    let w = wrote a.out.now a.at a.text.now a.material.now a.tracks.now f n (rw q at e) in
    (sym (w.0 ∙ sym (ap Ok q)), rw c.put_packet.ensures (part_over a.out.now (map_packet a.text.now a.material.now a.tracks.now) a.at (omega arith)) ∙ sym w.1)
