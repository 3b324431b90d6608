use native.Mathlib.Omega.{arith}
use mathlib.Core.Path.{sym, ◌∙◌}
use Rattle.mpeg_scan.specs.Scan.{alnum}
use Rattle.mpeg_scan.proofs.Laws.{run_out, run_stop, run_go}
use Rattle.mpeg_scan.proofs.alnum_end.Goals as goal

pub returns-then-not-is_alnum : goal.returns-then-not-is_alnum
returns-then-not-is_alnum c = run_stop _ _ _ 0 c.loop-i-test.true (sym c.is_alnum.ensures ∙ c.if-not-is_alnum.true) ∙ sym c.loop-i.invariant.0

pub loop-i-preserved : goal.loop-i-preserved
loop-i-preserved c = (c.loop-i.invariant.0 ∙ run_go _ _ _ 0 c.loop-i-test.true (sym c.is_alnum.ensures ∙ c.if-not-is_alnum.false), omega (arith, c.loop-i-test.true, c.loop-i.auto.i))

pub returns : goal.returns
returns c = omega (arith, run_out alnum c.args.s.now c.loop-i.i c.loop-i-test.false, c.loop-i.invariant.0, c.loop-i.invariant.1, c.max.ensures, c.loop-i.auto.i)
