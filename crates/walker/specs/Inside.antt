-- What serves the code alone: how many turns are enough.
use Rattle.std.specs.Prelude.{ℕ, ◌+◌, ◌/◌, ltb}
use Rattle.plate.specs.Choice.{pick}

-- of n steps over a stream of some bytes, so many that the others change nothing: where some are left out one was refused, as a packet has 16 bytes at least.
-- It is for the code alone
unfoldable pub turns_of : ℕ → ℕ → ℕ
turns_of len n = pick (ltb n (len / 16 + 1)) n (len / 16 + 1)
