use mathlib.Core.Path.{◌≡◌}
use mathlib.Core.Bool.{false}
use Rattle.mpeg_parameter.specs.Parameters.{lacking}
use Rattle.mpeg_parameter.proofs.is_lacking.Given as goal

abbrev pub invariant-loop-k : goal.invariant-loop-k
invariant-loop-k l = lacking l.slots l.k ≡ false
