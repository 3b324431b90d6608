-- A value means its slot's number: of a rate the bits of the one division.
use Prim.Native.Nat.{ℕ}
use mathlib.Core.Path.{◌≡◌, refl}
use mathlib.Core.Bool.{Bool, true, false}
use Rattle.std.specs.Prelude.{Option}
use Rattle.plate.specs.Choice.{pick}
use Rattle.mpeg_parameter.specs.Table.{rate}
use Rattle.mpeg_parameter.specs.Parameters.{number_of, millionths, value_of_row}
use Rattle.mpeg_parameter.specs.Meaning.{Meaning, number, float, meaning_of, bits_of}
use Rattle.mpeg_parameter.specs.declared.Row.{Row}
use Rattle.mpeg_parameter.specs.declared.ParameterValue.TheVariants.{Whole, Rate}

-- what a row's parameter means that is given n: of a rate n is in millionths
unfoldable pub meant : Row → ℕ → Meaning
meant r n = pick (rate r) (float (bits_of n)) (number n)

pub value_means : (r : Row) (slot : Option ℕ) → meaning_of (value_of_row r slot) ≡ meant r (number_of r slot)
unfolding value_of_row meaning_of meant bits_of
value_means r slot = go (rate r)
  where
    go : (b : Bool) → meaning_of (pick b (Rate (millionths (number_of r slot))) (Whole (number_of r slot))) ≡ pick b (float (bits_of (number_of r slot))) (number (number_of r slot))
    go true = refl
    go false = refl
