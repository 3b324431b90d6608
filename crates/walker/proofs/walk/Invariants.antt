use mathlib.Core.Path.{◌≡◌}
use Rattle.walker.specs.Walk.{place_of}
use Rattle.walker.proofs.walk.Given as goal

-- so many steps are taken, and the walker stands where they lead, on the same stream
abbrev pub invariant-loop : goal.invariant-loop
invariant-loop l = (l.w.stream.now ≡ l.s) × (l.w.at ≡ place_of l.s l.at l.counter)
