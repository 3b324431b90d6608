use Prim.Native.Nat.{◌≤◌, ◌<◌}
use Rattle.std.proofs.Common.{rules, tests}
use Rattle.std.proofs.lemmas.Iterator.{cases_from_all, YieldsList-from_slice}
use Rattle.locator_writer.proofs.Back.{all_told}
use Rattle.locator_writer.proofs.all_fit.Goals as goal

pub returns : goal.returns
returns c = let ns = c.args.offsets.now in
    all_told _ ns (cases_from_all _ _ _ (λ x. x ≤ 0xFFFFFFFF) (λ x. 0xFFFFFFFF < x) c.all.ensures.ran (YieldsList-from_slice ns cc) (λ x q k. search (rules, tests)) (λ x q k. search (rules, tests)))
