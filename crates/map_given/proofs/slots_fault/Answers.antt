use native.Mathlib.Omega.{arith}
use Rattle.map_given.specs.Faults.{slot_fault}
use mathlib.Core.Path.{◌≡◌, ◌∙◌, ap}
use lib.ListN.{length}
use Prim.Native.Nat.{◌/◌, ◌+◌, ◌*◌, ◌-◌}
use Rattle.map_given.proofs.Laws.{slots_fault_turn, slots_fault_out}
use Rattle.map_given.proofs.slots_fault.Goals as goal

pub loop-i-preserved : goal.loop-i-preserved
loop-i-preserved c = let l = c.loop-i in let a = c.args in let n = length a.words.now / 3 in
    let e : n - (l.i + 1) ≡ n - l.i - 1 = omega arith in
    let f : 3 * (l.i + 1) ≡ 3 * l.i + 3 = omega arith in
    let g : a.tag + (l.i + 1) ≡ a.tag + l.i + 1 = omega arith in
    rw (c.graver_of-worst.ensures, e, f, g)
    (slots_fault_turn a.text.now a.words.now (n - l.i) _ _ _ l.worst _ (omega arith) l.invariant (c.slot_fault.ensures ∙ ap (slot_fault a.text.now) c.slot_at-s.ensures))

pub returns : goal.returns
returns c = let l = c.loop-i in slots_fault_out c.args.text.now c.args.words.now (length c.args.words.now / 3 - l.i) _ _ _ l.worst (omega arith) l.invariant
