use Prim.Native.Nat.{◌<◌, ◌^◌}
use mathlib.Core.Path.{◌≡◌}
use lib.ListN.{drop}
use Rattle.mpeg_decimal.specs.Decimal.{numeral_of, digits}
use Rattle.mpeg_decimal.proofs.numeral.Given as goal

abbrev pub invariant-loop-b : goal.invariant-loop-b
invariant-loop-b l = (l.n < 10 ^ l.b-index) × (numeral_of l.most l.v ≡ digits l.n (drop l.b-index l.v))
