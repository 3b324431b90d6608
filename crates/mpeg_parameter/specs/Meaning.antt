-- What each case of a parameter's value is (01, "MPEG auxiliary text"): a whole number, or a 64-bit float, told by its bits.
use Rattle.std.specs.Prelude.{ℕ}
use Rattle.std.specs.Float.Ieee as Ieee
use Rattle.std.specs.Float.{binary64}
use Rattle.mpeg_parameter.specs.Parameters.{millionths}
use Rattle.mpeg_parameter.specs.declared.ParameterValue.{ParameterValue}
use Rattle.mpeg_parameter.specs.declared.ParameterValue.TheVariants.{Whole, Rate}

pub data Meaning : Type 0 where
  number : ℕ → Meaning
  float : ℕ → Meaning

unfoldable pub meaning_of : ParameterValue → Meaning
meaning_of (Whole n) = number n
meaning_of (Rate x) = float (Ieee.to_bits binary64 x)

-- the bits of N divided by 1,000,000 in one float division
unfoldable pub bits_of : ℕ → ℕ
bits_of n = Ieee.to_bits binary64 (millionths n)
