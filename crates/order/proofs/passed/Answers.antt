use borrow.Author.Tests.{eq-eqb, ne_eqb}
use Rattle.order.specs.Order.{progress_after}
use Rattle.order.proofs.passed.Goals as goal
use Rattle.order.proofs.passed.Goals.{then-packet_type-eq-MAP, else-packet_type-eq-MAP}

pub returns : goal.returns
unfolding progress_after
returns c =
    elim c.if-packet_type-eq-MAP.branch [
      | then-packet_type-eq-MAP w ↦ rw (w.result-is, eq-eqb _ _ w.if-packet_type-eq-MAP.true, c.or_type.ensures, c.or_type-2.ensures, c.falls_due.ensures)
      | else-packet_type-eq-MAP w ↦ rw (w.result-is, ne_eqb _ _ w.if-packet_type-eq-MAP.false, c.or_type.ensures, c.or_type-2.ensures, c.falls_due.ensures)
    ]
