use native.Mathlib.Omega.{arith}
use Prim.Native.Nat.{◌-◌, ◌*◌}
use mathlib.Core.Path.{refl, sym, ◌∙◌}
use lib.Seq.{length-take-le}
use Rattle.std.proofs.lemmas.Result.{err_from_is_err_and}
use Rattle.agreement.proofs.Laws.{had_room, agrees, unequal}
use Rattle.agreement.proofs.compare.Goals as goal

pub overflow_mul-n : goal.overflow_mul-n
overflow_mul-n c = omega (arith, had_room _ _ _ (sym c.in_ok-n.ensures.0), c.well_formed.0.0)

pub slice_bounds-lookup-end : goal.slice_bounds-lookup-end
slice_bounds-lookup-end c = omega (arith, had_room _ _ _ (sym c.in_ok-n.ensures.0), c.build.auto.out)

pub slice_bounds-lookup-end-2 : goal.slice_bounds-lookup-end-2
slice_bounds-lookup-end-2 c = sym (length-take-le _ _ (omega (arith, had_room _ _ _ (sym c.in_ok-n.ensures.0), c.build.auto.out)))

pub returns-in_err-n : goal.returns-in_err-n
returns-in_err-n c = let p = err_from_is_err_and c.from_residual.result c.from_residual.ensures.1 in rw (p.1, p.2) (rw (sym c.in_err-n.ensures.0), c.in_err-n.ensures.1)

pub returns-then-eq : goal.returns-then-eq
returns-then-eq c = (rw (sym c.in_ok-n.ensures.0), c.build.ensures.1)

pub returns : goal.returns
returns c = let a = c.args in
    let one = agrees a.s (record { room = c.well_formed.1.0; known = c.type_inv.s }) a.out.now c.in_ok-n.n (sym c.in_ok-n.ensures.0) a.track a.field
    (16 * c.in_ok-n.n) _ _ c.lookup-found.ensures c.build.ensures.1 _ c.seek.ensures refl in
    absurd (unequal c.lookup-found.result c.seek.result one (sym c.eq.ensures ∙ c.if-eq.false))
