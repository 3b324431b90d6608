-- What seek promises in words of packets: none carries a field of a track, or one does and is the first (01, "Stream, seek, book").
use Rattle.std.specs.Prelude.{ℕ, ◌≡◌, true, false, List, [], ◌∷◌, ◌++◌}
use Rattle.stream.specs.Stream.{Placed, carries}

-- no packet of a list carries the field
abbrev pub NoneCarries : ℕ → ℕ → List Placed → Type 0
NoneCarries track field [] = Unit {0}
NoneCarries track field (x ∷ xs) = (carries track field x ≡ false) × NoneCarries track field xs

-- a packet of a list stands at an offset and carries the field, and none before it does
pub record First (track field offset : ℕ) (xs : List Placed) : Type 0 where
  pub earlier : List Placed
  pub it : Placed
  pub later : List Placed
  pub all : xs ≡ earlier ++ (it ∷ later)
  pub stands : it.at ≡ offset
  pub carrier : carries track field it ≡ true
  pub none : NoneCarries track field earlier
