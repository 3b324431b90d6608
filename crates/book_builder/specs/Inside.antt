-- What serves the code alone: how it walks over the packets of a stream that the check has passed.
use Rattle.std.specs.Prelude.{◌≡◌, ℕ, List, Ok}
use Rattle.stream.specs.Stream.{check_of}

-- for the code alone: how it walks over the packets of a stream that the check has passed
pub record Accepted (s : List ℕ) : Type 0 where
  pub count : ℕ
  pub passes : check_of s ≡ Ok count
