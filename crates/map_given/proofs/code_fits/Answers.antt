use Rattle.plate.proofs.Tests.{tests}
use native.Mathlib.Omega.{arith}
use borrow.Author.Tests.{ne_eqb}
use Rattle.map_given.specs.Faults.{code_fits}
use Rattle.map_given.proofs.Laws.{over_allowed}
use Rattle.map_given.proofs.code_fits.Goals as goal

pub returns-in-0-to-8 : goal.returns-in-0-to-8
unfolding code_fits
returns-in-0-to-8 c = let n = c.args.n in simp (ne_eqb n 0xFFFFFFFFFFFFFFFF (λ e. omega arith), ne_eqb n 0xFFFFFFFFFFFFFFFE (λ e. omega arith)) c.is_allowed.ensures

pub returns-in_default : goal.returns-in_default
unfolding code_fits
returns-in_default c = let n = c.args.n in simp (ne_eqb n 0xFFFFFFFFFFFFFFFF (λ e. omega arith), ne_eqb n 0xFFFFFFFFFFFFFFFE (λ e. omega arith), over_allowed c.args.tag n (omega arith))

pub returns-in-18446744073709551615 : goal.returns-in-18446744073709551615
unfolding code_fits
returns-in-18446744073709551615 c = grind (tests)
