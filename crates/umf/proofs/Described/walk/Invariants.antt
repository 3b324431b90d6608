use Rattle.umf.proofs.Turns.{Left}
use Rattle.umf.proofs.Described.walk.Given as goal

abbrev pub invariant-loop-i : goal.invariant-loop-i
invariant-loop-i l = Left l.self l.d l.count l.at l.i
