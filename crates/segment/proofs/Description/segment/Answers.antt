use Rattle.segment.specs.Segment.{segment_of, allowed}
use Rattle.segment.proofs.Description.segment.Goals as goal

pub returns : goal.returns
unfolding segment_of allowed
returns c = simp
    (c.specification.ensures, c.shown_if-4.ensures, c.is_size.ensures, c.shown_if-3.ensures, c.is_rate.ensures, c.shown_if-2.ensures, c.is_type.ensures, c.text_at.ensures, c.word-3.ensures, c.word-2.ensures, c.word.ensures, c.half.ensures, c.shown_if.ensures, c.is_track.ensures, c.word-size.ensures, c.word-rate.ensures, c.word-t.ensures, c.half-track.ensures)
