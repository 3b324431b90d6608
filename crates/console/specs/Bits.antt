-- A float as a number to print.
use Rattle.std.specs.Prelude.{ℕ, Float}
use Rattle.std.specs.Float.{binary64}
use Rattle.std.specs.Float.Ieee.{eq, to_bits}
use Rattle.plate.specs.Choice.{pick}

-- its bits; 0 for what does not equal itself, and so is no number
unfoldable pub bits_of : Float → ℕ
bits_of x = pick (eq x x) (to_bits binary64 x) 0
