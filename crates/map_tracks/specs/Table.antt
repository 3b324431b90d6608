-- What the mark changed of 01's table by ID (02, §2): 01's own table, and tracks without a mark.
use Rattle.std.specs.Prelude.{ℕ, ◌-◌, ◌≡◌, false, List, [], ◌∷◌, set}
use Rattle.plate.specs.Choice.{pick}
use Rattle.map_answer.specs.Answer.{is_progressive}
use Rattle.map_tracks.specs.Tracks.{Description, Placed, is_listed, record_of}

-- 01's table: by ID, the media type under which a track is listed, and 0 where none is
unfoldable pub plain_types_of : List ℕ → List Description → List ℕ
plain_types_of types [] = types
plain_types_of types (d ∷ ds) = plain_types_of (pick (is_listed d) (set types (d.id - 0xC0) (d.type_byte - 0x80)) types) ds

-- listed tracks none of which has fields per frame 1
abbrev pub NoneProgressive : List Placed → Type 0
NoneProgressive [] = Unit {0}
NoneProgressive (t ∷ ts) = (is_progressive (record_of t).fields ≡ false) × NoneProgressive ts
