use Rattle.count_book.specs.MeasureBook.{build_reading}
use Rattle.count_book.proofs.gxf_build.Goals as goal

pub returns : goal.returns
unfolding build_reading
returns c = (rw (c.value.ensures, c.build.ensures.0), c.build.ensures.1)
