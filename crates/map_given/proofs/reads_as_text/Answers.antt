use borrow.Author.Rules.{rules}
use borrow.Author.Tests.{tests}
use Rattle.std.proofs.lemmas.Iterator.{cases_from_all, YieldsList-from_slice}
use Rattle.map_given.proofs.Laws.{Plain, NotPlain, plain_text}
use Rattle.map_given.proofs.reads_as_text.Goals as goal

pub returns : goal.returns
returns c = plain_text c.args.v.now c.all.result (cases_from_all _ _ _ Plain NotPlain c.all.ensures.ran (YieldsList-from_slice c.args.v.now cc) (λ x q k. search (rules, tests)) (λ x q k. search (rules, tests)))
