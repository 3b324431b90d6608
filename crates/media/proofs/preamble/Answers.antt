use Rattle.number.proofs.Laws.{be_lt}
use Rattle.media.proofs.preamble.Goals as goal

pub overflow_cast-result : goal.overflow_cast-result
overflow_cast-result c = rw c.be4.ensures (record { fits = be_lt _ c.type_inv.p 18 4 })

pub overflow_cast-result-2 : goal.overflow_cast-result-2
overflow_cast-result-2 c = rw c.be4-2.ensures (record { fits = be_lt _ c.type_inv.p 22 4 })

pub overflow_cast-result-3 : goal.overflow_cast-result-3
overflow_cast-result-3 c = rw c.be4-3.ensures (record { fits = be_lt _ c.type_inv.p 26 4 })
