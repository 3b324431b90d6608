use Rattle.plate.proofs.Tests.{tests}
use Rattle.probe_records.specs.Lent.{lent_of}
use Rattle.probe_records.proofs.lent_of.Goals as goal

pub returns-then-n-lt80 : goal.returns-then-n-lt80
unfolding lent_of
returns-then-n-lt80 c = search tests

pub returns-else-n-lt80 : goal.returns-else-n-lt80
unfolding lent_of
returns-else-n-lt80 c = search tests
