use mathlib.Core.Path.{◌≡◌, sym, subst}
use mathlib.Core.Bool.{true, not}
use lib.Dec.{T}
use lib.Ieee.{Float, nan, inf, fin, eq, is_nan}
use Rattle.console.specs.Bits.{bits_of}
use Rattle.console.proofs.bits_of.Goals as goal

-- a float that equals itself is a number, so that it has bits
no_nan : (x : Float) → eq x x ≡ true → T (not (is_nan x))
unfolding eq is_nan
no_nan nan h = subst T (sym h) tt
no_nan (inf s) h = tt
no_nan (fin s m e) h = tt

pub float_to_bits-result : goal.float_to_bits-result
float_to_bits-result c = no_nan _ c.if-x.true

pub returns-then-x : goal.returns-then-x
unfolding bits_of
returns-then-x c = rw c.if-x.true

pub returns : goal.returns
unfolding bits_of
returns c = rw c.if-x.false
