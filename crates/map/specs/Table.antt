-- The table by ID that a stream keeps of its latest map (02, §2), held against the records that the map gives and against 01's table: under each ID the type of the track that is listed under it, with the mark just where that track's fields per frame are 1. Proved in proofs/Table.antt.
use Rattle.std.specs.Prelude.{ℕ, ◌<◌, ◌≡◌, List, get_or, replicate, Some, None, Ok}
use Rattle.field.specs.Field.{has_mark, type_alone}
use Rattle.map_answer.specs.Answer.{is_progressive}
use Rattle.map_answer.specs.declared.Track.{Track}
use Rattle.map_tracks.specs.Tracks.{tracks_of, id_of}
use Rattle.map_tracks.specs.Table.{plain_types_of}
use Rattle.map.specs.Map.{layout_of, tracks_in, listed_in, types_in, map_verdict}

-- 01's table by ID
abbrev pub plain_types_in : List ℕ → List ℕ
plain_types_in p = plain_types_of (replicate 64 0) (tracks_of (tracks_in p (layout_of p))).list

-- what the table says under an ID
pub record TableSays (p : List ℕ) (id : ℕ) : Type 0 where
  -- of the track that is listed under it: its type, and whether it is progressive
  pub type : (t : Track) → id_of id (listed_in p) ≡ Some t → type_alone (get_or (types_in p) id 0) ≡ t.media_type
  pub mark : (t : Track) → id_of id (listed_in p) ≡ Some t → has_mark (get_or (types_in p) id 0) ≡ is_progressive t.fields
  -- and 0 where none is
  pub other : id_of id (listed_in p) ≡ None → get_or (types_in p) id 0 ≡ 0

pub record Table : Type 0 where
  -- of every accepted map and every ID
  pub says : (p : List ℕ) → map_verdict p ≡ (Ok tt) → (id : ℕ) → id < 64 → TableSays p id
  -- and without the mark it is 01's, which the order of a stream goes by, so that no verdict of a check is another
  pub alone : (p : List ℕ) (id : ℕ) → type_alone (get_or (types_in p) id 0) ≡ get_or (plain_types_in p) id 0
