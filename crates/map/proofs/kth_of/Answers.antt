use native.Mathlib.Omega.{arith}
use mathlib.Core.Path.{◌∙◌}
use Rattle.map.specs.Map.{listed_in}
use Rattle.map.proofs.Laws.{tracks_fit}
use lib.ListN.{length}
use mathlib.Core.Path.{ap}
use Rattle.map.proofs.kth_of.Goals as goal

pub kth_record-requires : goal.kth_record-requires
kth_record-requires c = omega (arith, tracks_fit c.args.p.now, c.first_track.ensures, ap length c.track_part.ensures)

pub returns : goal.returns
unfolding listed_in
returns c = c.kth_record.ensures ∙ rw (c.track_part.ensures, c.first_track.ensures)
