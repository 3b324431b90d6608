-- What C sees of the answer whose instructions are counted (docs/DECISIONS.md, S24): the value is the number of records; the buffer is the builder's.
use Rattle.std.specs.Prelude.{ℕ, Result}
use Rattle.for_c.specs.declared.GxfValue.{GxfValue}
use Rattle.plate.specs.declared.Refusal.{Refusal}
use Rattle.for_c.specs.ForC.{value_for_c}

unfoldable pub build_reading : Result ℕ Refusal → GxfValue
build_reading = value_for_c
