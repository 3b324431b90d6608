-- What serves the code alone: a word with its bytes turned over.
use Rattle.std.specs.Prelude.{ℕ, zero, suc, ◌+◌, ◌*◌, ◌/◌, ◌%◌, ◌^◌}

-- the n least significant bytes of a number, read in the other order
unfoldable pub turned_over : ℕ → ℕ → ℕ
turned_over zero x = 0
turned_over (suc n) x = x % 256 * 256 ^ n + turned_over n (x / 256)
