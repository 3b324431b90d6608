-- What C sees of the answers whose instructions are counted (docs/DECISIONS.md, S24): the value is the number of packets, or an offset.
use Rattle.std.specs.Prelude.{ℕ, Result}
use Rattle.for_c.specs.declared.GxfValue.{GxfValue}
use Rattle.plate.specs.declared.Refusal.{Refusal}
use Rattle.for_c.specs.ForC.{value_for_c}

unfoldable pub check_reading : Result ℕ Refusal → GxfValue
check_reading = value_for_c

unfoldable pub lookup_reading : Result ℕ Refusal → GxfValue
lookup_reading = value_for_c
