use borrow.Author.Rules.{rules}
use Rattle.number.proofs.Laws.{be_lt}
use Rattle.umf_answer.specs.Says.{preamble_of}
use Rattle.umf_answer.proofs.preamble_says.Goals as goal

pub overflow_cast-result : goal.overflow_cast-result
overflow_cast-result c = let a = c.args in search (rules, c.be4.ensures, be_lt a.p.now c.type_inv.p 17 4)

pub returns : goal.returns
unfolding preamble_of
returns c = simp (c.shown_if.ensures, c.be4.ensures)
