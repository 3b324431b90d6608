use Rattle.order.specs.Order.{step_of}
use Rattle.order.proofs.take_step.Goals as goal

pub returns-then-x-eq-MEDIA : goal.returns-then-x-eq-MEDIA
unfolding step_of
returns-then-x-eq-MEDIA c = rw c.if-x-eq-MEDIA.true c.step_as.ensures

pub returns : goal.returns
unfolding step_of
returns c = c.step_as-2.ensures
