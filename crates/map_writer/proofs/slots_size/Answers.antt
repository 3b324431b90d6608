use native.Mathlib.Omega.{arith}
use mathlib.Core.Path.{◌≡◌, ◌∙◌, ap}
use lib.ListN.{length}
use Prim.Native.Nat.{◌/◌, ◌+◌, ◌*◌, ◌-◌}
use Rattle.map_writer.proofs.Laws.{slots_size_turn, slots_size_out}
use Rattle.map_writer.specs.Inside.{slot_size}
use Rattle.map_writer.proofs.slots_size.Goals as goal

pub overflow_add-total : goal.overflow_add-total
overflow_add-total c = let l = c.loop-i in let a = c.args in let n = length a.words.now / 3 in
    let e = c.slot_size-total.ensures ∙ ap slot_size c.slot_at.ensures in
    omega (arith, slots_size_turn a.words.now (n - l.i) (3 * l.i) (a.tag + l.i) (omega arith), c.requires.1, l.invariant, e)

pub loop-i-preserved : goal.loop-i-preserved
loop-i-preserved c = let l = c.loop-i in let a = c.args in let n = length a.words.now / 3 in
    let s = c.slot_size-total.ensures ∙ ap slot_size c.slot_at.ensures in
    let e : n - (l.i + 1) ≡ n - l.i - 1 = omega arith in
    let f : 3 * (l.i + 1) ≡ 3 * l.i + 3 = omega arith in
    let g : a.tag + (l.i + 1) ≡ a.tag + l.i + 1 = omega arith in
    rw (e, f, g) (omega (arith, slots_size_turn a.words.now (n - l.i) (3 * l.i) (a.tag + l.i) (omega arith), l.invariant, s))

pub returns : goal.returns
returns c = let l = c.loop-i in let a = c.args in let n = length a.words.now / 3 in omega (arith, slots_size_out a.words.now (n - l.i) (3 * l.i) (a.tag + l.i) (omega arith), l.invariant)
