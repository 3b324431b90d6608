use Rattle.control.specs.Control.{seek_for_c}
use Rattle.control.proofs.gxf_seek.Goals as goal

pub returns : goal.returns
unfolding seek_for_c
returns c = rw (c.value.ensures, c.seek.ensures)
