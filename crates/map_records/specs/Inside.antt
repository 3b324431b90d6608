-- What serves the proofs alone: how many records an answer stands for.
use Rattle.std.specs.Prelude.{ℕ, Result, Ok, Err}
use Rattle.map.specs.declared.MapSays.{MapSays}
use Rattle.plate.specs.declared.Refusal.{Refusal}

-- how many records an answer stands for
unfoldable pub records_to_write : Result MapSays Refusal → ℕ
records_to_write (Err r) = 0
records_to_write (Ok m) = m.count
