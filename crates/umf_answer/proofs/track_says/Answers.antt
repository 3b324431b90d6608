use Rattle.umf_answer.specs.Says.{track_of}
use Rattle.umf_answer.proofs.track_says.Goals as goal

pub returns : goal.returns
unfolding track_of
returns c = simp (c.shown_if.ensures, c.is_track.ensures, c.half-track.ensures, c.half.ensures)
