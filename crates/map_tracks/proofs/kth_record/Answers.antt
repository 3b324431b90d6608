use mathlib.Core.Path.{◌∙◌}
use native.Mathlib.Omega.{arith}
use Rattle.map_tracks.proofs.Listed.{keyed_number}
use Rattle.map_tracks.proofs.kth_record.Goals as goal

pub returns : goal.returns
returns c = c.record_by.ensures ∙ keyed_number _ 0 _ (omega arith) _
