use Rattle.count_stream.specs.Measure.{lookup_reading}
use Rattle.count_stream.proofs.gxf_lookup.Goals as goal

pub returns : goal.returns
unfolding lookup_reading
returns c = rw (c.value.ensures, c.lookup.ensures)
