use mathlib.Core.Path.{◌≡◌}
use Rattle.map_records.specs.Fill.{records_at}
use Rattle.map_records.proofs.Laws.{up_to}
use Rattle.map_records.proofs.fill.Given as goal

-- so many records are written, in the place of the first that were lent
abbrev pub invariant-loop-i : goal.invariant-loop-i
invariant-loop-i l = l.recs ≡ up_to l.i (records_at l.s l.at) l.initial.recs
