use Rattle.count_stream.specs.Measure.{check_reading}
use Rattle.count_stream.proofs.gxf_check.Goals as goal

pub returns : goal.returns
unfolding check_reading
returns c = rw (c.value.ensures, c.check.ensures)
