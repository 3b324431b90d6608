-- What a marked type tells: of a known type, and so of one under 64, both its parts come back. Proved in proofs/Marks.antt.
use Rattle.std.specs.Prelude.{ℕ, ◌<◌, ◌≡◌, Bool, true}
use Rattle.media_type.specs.MediaType.{known_type}
use Rattle.field.specs.Field.{type_with, has_mark, type_alone}

pub record Marks (type : ℕ) : Type 0 where
  pub under : type < 64
  pub mark : (marked : Bool) → has_mark (type_with marked type) ≡ marked
  pub alone : (marked : Bool) → type_alone (type_with marked type) ≡ type

abbrev pub KnownMarks : Type 0
KnownMarks = (type : ℕ) → known_type type ≡ true → Marks type
