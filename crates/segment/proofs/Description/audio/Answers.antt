use Rattle.segment.specs.Segment.{audio_of}
use Rattle.segment.proofs.Description.audio.Goals as goal

pub returns : goal.returns
unfolding audio_of
returns c = simp (c.level_of.ensures, c.le8.ensures, c.level_of-2.ensures, c.le8-2.ensures, c.word.ensures, c.word-2.ensures)
