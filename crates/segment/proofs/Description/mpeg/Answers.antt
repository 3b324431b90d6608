use Rattle.segment.specs.Segment.{mpeg_of}
use Rattle.segment.proofs.Description.mpeg.Goals as goal

pub returns : goal.returns
unfolding mpeg_of
returns c = simp (c.attributes.ensures, c.word-7.ensures, c.word-6.ensures, c.word-5.ensures, c.word-4.ensures, c.listed-3.ensures, c.word-3.ensures, c.listed-2.ensures, c.word-2.ensures, c.listed.ensures, c.word.ensures)
