use Rattle.plate.proofs.Tests.{tests}
use Rattle.book_builder.specs.BookBuilder.{recorded}
use Rattle.book_builder.proofs.is_recorded.Goals as goal

pub returns-then-x-eq-MEDIA : goal.returns-then-x-eq-MEDIA
unfolding recorded
returns-then-x-eq-MEDIA c = search (tests, c.is_known.ensures)

pub returns-else-x-eq-MEDIA : goal.returns-else-x-eq-MEDIA
unfolding recorded
returns-else-x-eq-MEDIA c = search tests
