use borrow.Author.Rules.{rules}
use Rattle.number.proofs.Laws.{le_lt}
use Rattle.umf_answer.proofs.half.Goals as goal

pub overflow_cast-result : goal.overflow_cast-result
overflow_cast-result c = let a = c.args in search (rules, c.le_at.ensures, le_lt a.d.now c.type_inv.d a.at 2)
