use mathlib.Core.Path.{sym, ◌∙◌}
use Rattle.packet.proofs.Laws.{leads, leads_not}
use Rattle.packet.proofs.is_leader.Goals as goal

pub returns-then-be4-eq0 : goal.returns-then-be4-eq0
returns-then-be4-eq0 c = leads _ _ (sym c.be4.ensures ∙ c.if-be4-eq0.true)

pub returns-else-be4-eq0 : goal.returns-else-be4-eq0
returns-else-be4-eq0 c = rw c.be4.ensures (leads_not _ _ (λ q. c.if-be4-eq0.false (c.be4.ensures ∙ q)))
