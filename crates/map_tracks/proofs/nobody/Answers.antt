use Prim.Native.Nat.{ℕ, ◌-◌, ◌%◌, ◌^◌}
use native.Mathlib.Nat.{zero-div}
use mathlib.Core.Path.{ap}
use lib.Dec.{eqb}
use Rattle.map_tracks.specs.Inside.{holds}
use Rattle.map_tracks.proofs.nobody.Goals as goal

pub returns : goal.returns
unfolding holds
returns c k a b = ap (λ (x : ℕ). eqb (x % 2) 1) (zero-div (2 ^ (k - 0xC0)))
