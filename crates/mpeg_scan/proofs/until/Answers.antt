use Rattle.std.proofs.Common.{rules, tests, drop}
use Rattle.std.proofs.lemmas.Iterator.{YieldsList-from_slice}
use Rattle.std.proofs.lemmas.Iterator.Consumers.{count_from_yields_List}
use Rattle.std.proofs.lemmas.Iterator.Search.{YieldsList-from_take_while}
use Rattle.mpeg_scan.specs.Scan.{other}
use Rattle.mpeg_scan.proofs.Laws.{run_end_is}
use Rattle.mpeg_scan.proofs.until.Goals as goal

pub returns : goal.returns
unfolding other
returns c =
    let a = c.args in
    run_end_is _ a.s.now a.at _
    (count_from_yields_List c.take_while.result _ c.count.ensures.ran
    (YieldsList-from_take_while _ (other a.stop)
    (YieldsList-from_slice (drop a.at a.s.now) (search (rules, c.rest.ensures)))
    c.take_while.ensures.closure c.take_while.ensures.done (λ x b q k. search (rules, tests))))
