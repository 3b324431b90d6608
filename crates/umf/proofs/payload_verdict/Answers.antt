use Rattle.plate.proofs.Tests.{tests}
use Rattle.umf.specs.Umf.{payload_verdict}
use Rattle.umf.proofs.payload_verdict.Goals as goal

pub returns-then-y-lt48 : goal.returns-then-y-lt48
unfolding payload_verdict
returns-then-y-lt48 c = search (tests, c.refused.ensures)

pub returns-then-y-lt104 : goal.returns-then-y-lt104
unfolding payload_verdict
returns-then-y-lt104 c = search (tests, c.refused-then-y-lt104.ensures)

pub returns : goal.returns
unfolding payload_verdict
returns c = search (tests, c.sections_verdict.ensures)
