use Rattle.segment.specs.Segment.{jpeg_of}
use Rattle.segment.proofs.Description.jpeg.Goals as goal

pub returns : goal.returns
unfolding jpeg_of
returns c = simp (c.number_of.ensures, c.le8.ensures, c.number_of-2.ensures, c.le8-2.ensures, c.number_of-3.ensures, c.le8-3.ensures, c.number_of-4.ensures, c.le8-4.ensures)
