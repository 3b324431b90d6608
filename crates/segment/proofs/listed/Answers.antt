use Rattle.segment.specs.Segment.{allowed}
use Rattle.segment.proofs.listed.Goals as goal

pub returns : goal.returns
unfolding allowed
returns c = simp (c.shown_if.ensures, c.is_in.ensures)
