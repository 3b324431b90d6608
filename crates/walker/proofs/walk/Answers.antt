use mathlib.Core.Path.{◌≡◌, ap, ◌∙◌}
use native.Mathlib.Omega.{arith}
use native.Mathlib.Numerals.{add-one}
use Rattle.walker.specs.Walk.{place_of, Made, Stepped, walk_of}
use Rattle.walker.specs.declared.Walker.{Walker}
use Rattle.walker.proofs.Laws.{enough_turns}
use Rattle.walker.proofs.walk.Goals as goal

pub loop-init : goal.loop-init
unfolding Made place_of
loop-init c = (ap (λ (w : Walker). w.stream.now) c.make-w.ensures, ap (λ (w : Walker). w.at) c.make-w.ensures)

pub loop-preserved : goal.loop-preserved
unfolding Stepped place_of
loop-preserved c =
    let v = c.loop.invariant in
    let w = c.step.ensures.1 in
    (ap (λ (w : Walker). w.stream.now) w ∙ v.0, rw add-one (rw (v.0, v.1) at (ap (λ (w : Walker). w.at) w)))

pub returns : goal.returns
unfolding Stepped walk_of
returns c =
    let a = c.args in
    let v = c.loop.invariant in
    let e : c.loop.counter ≡ c.turns-end.result = omega arith in
    let p : c.loop.w.at ≡ place_of a.s.now a.at a.n = v.1 ∙ ap (place_of a.s.now a.at) (e ∙ c.turns-end.ensures) ∙ enough_turns a.s.now a.at a.n in
    let h = rw (v.0, p) at c.step-2.ensures.0 in
    rw (p, h)
