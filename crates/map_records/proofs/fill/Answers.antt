use Prim.Native.Nat.{◌<◌}
use mathlib.Core.Path.{◌≡◌, refl, sym, ap, ◌∙◌}
use native.Mathlib.Omega.{arith}
use lib.ListN.{length}
use borrow.Author.Rules.{rules}
use Rattle.std.proofs.lemmas.Result.{err_from_is_err_and}
use Rattle.map_records.specs.Fill.{records_at, answer_for, lent_after, Filled}
use Rattle.map_records.specs.Inside.{records_to_write}
use Rattle.map_records.proofs.Laws.{up_to, up_to_more, beyond, writes}
use Rattle.map_records.proofs.fill.Goals as goal
use Rattle.map_records.proofs.fill.Goals.{in-Some, in_default}

pub returns-in_err-says : goal.returns-in_err-says
unfolding Filled lent_after
returns-in_err-says c = let p = err_from_is_err_and c.from_residual.result c.from_residual.ensures.1 in rw (p.1, p.2, sym c.in_err-says.ensures) (refl, refl)

pub loop-i-init : goal.loop-i-init
unfolding up_to
loop-i-init c = refl

pub offset_bounds-recs-i : goal.offset_bounds-recs-i
unfolding records_to_write
offset_bounds-recs-i c =
    let w = writes c.args.s.now c.args.at c.args.recs.now in
    let n = ap records_to_write c.in_ok-says.ensures in
    let h : c.loop-i.i < length c.args.recs.now = omega (arith, w.fits) in
    search rules

pub bounds-recs-i : goal.bounds-recs-i
unfolding records_to_write
bounds-recs-i c =
    let w = writes c.args.s.now c.args.at c.args.recs.now in
    let n = ap records_to_write c.in_ok-says.ensures in
    omega (arith, w.fits, c.loop-i.auto.recs)

pub loop-i-preserved : goal.loop-i-preserved
unfolding records_to_write
loop-i-preserved c =
    let w = writes c.args.s.now c.args.at c.args.recs.now in
    let n = ap records_to_write c.in_ok-says.ensures in
    elim c.match-record_at.branch [
      | in-Some x ↦ rw (x.recs-is, c.loop-i.invariant) (up_to_more _ _ _ _ (sym c.record_at.ensures ∙ x.in-Some.is) (omega (arith, w.fits)))
      | in_default x ↦ absurd (omega (arith, w.listed, beyond c.loop-i.i (records_at c.args.s.now c.args.at) (sym c.record_at.ensures ∙ x.in_default.is)))
    ]

pub returns : goal.returns
unfolding Filled records_to_write
returns c =
    let w = writes c.args.s.now c.args.at c.args.recs.now in
    let n = ap records_to_write c.in_ok-says.ensures in
    let e : c.loop-i.i ≡ records_to_write (answer_for c.args.s.now c.args.at (length c.args.recs.now)) = omega (arith, c.loop-i.auto.i-end) in
    (c.in_ok-says.ensures, c.loop-i.invariant ∙ rw e w.leaves)
