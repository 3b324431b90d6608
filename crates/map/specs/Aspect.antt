-- The aspect in a track's record (02, §11): it follows from the record's own type and from the bytes that the record points at. Proved in proofs/Aspect.antt, for every packet, by lengths alone; that IDs tell records apart is so in accepted maps.
use Rattle.std.specs.Prelude.{ℕ, ◌+◌, ◌≡◌, true, List, [], ◌∷◌, Option, Some, None, Ok}
use Rattle.plate.specs.Part.{part}
use Rattle.packet.specs.Packet.{packet_at, type_map}
use Rattle.packet.specs.declared.Packet.{Packet}
use Rattle.map_aspect.specs.Aspect.{aspect_of}
use Rattle.map_aspect.specs.Meaning.{Mpeg}
use Rattle.map_aspect.specs.declared.Aspect.TheVariants.{Unknown}
use Rattle.map_answer.specs.Answer.{is_null}
use Rattle.map_answer.specs.declared.Track.{Track}
use Rattle.map_items.specs.declared.Part.{Part}
use Rattle.map_tracks.specs.Tracks.{kth_of, id_of}
use Rattle.map.specs.Map.{map_verdict, listed_in, track_at}
use Rattle.map.specs.View.{held_at, held_bytes, TrackView, view_in}

-- the bytes of the packet p that a part points at; none where the part is absent
abbrev pub bytes_at : List ℕ → Option Part → List ℕ
bytes_at p x = held_bytes (held_at p x)

-- of a record t of the packet p
pub record AspectIn (p : List ℕ) (t : Track) : Type 0 where
  -- by the type, and by the bytes of the 4D and of the 4F that it shows
  pub follows : t.aspect ≡ aspect_of t.media_type (bytes_at p t.aux) (bytes_at p t.mpeg)
  -- MPEG video that shows no 4F is unknown, and so is any other track that shows no 4D
  pub no_text : Mpeg t.media_type → t.mpeg ≡ None → t.aspect ≡ Unknown
  pub no_bits : (Mpeg t.media_type → ⊥) → t.aux ≡ None → t.aspect ≡ Unknown
  -- under a null name it shows neither
  pub null_name_lem : is_null t.name ≡ true → (t.aux ≡ None) × (t.mpeg ≡ None) × (t.aspect ≡ Unknown)

-- of what a map's answer shows, places aside: the aspect is told by what else is shown
abbrev pub Follows : TrackView → Type 0
Follows v = v.aspect ≡ aspect_of v.media_type (held_bytes v.aux) (held_bytes v.mpeg)

abbrev pub AllFollow : List TrackView → Type 0
AllFollow [] = Unit {0}
AllFollow (v ∷ vs) = Follows v × AllFollow vs

pub record RecordAspects : Type 0 where
  -- the record of a track by its number has it, and all that the packet shows
  pub by_number : (p : List ℕ) (k : ℕ) (t : Track) → kth_of k (listed_in p) ≡ Some t → AspectIn p t
  pub shown : (p : List ℕ) → AllFollow (view_in p).tracks
  -- by ID, by number and at a position of lent bytes it is one record: the one of an ID has a number, that of a number in an accepted map is the one of its ID, and the reader's is that of its number
  pub by_id_lem : (p : List ℕ) (id : ℕ) (t : Track) → id_of id (listed_in p) ≡ Some t → (k : ℕ) × (kth_of k (listed_in p) ≡ Some t) × (t.id ≡ id)
  pub id_of_lem : (p : List ℕ) → map_verdict p ≡ (Ok tt) → (k : ℕ) (t : Track) → kth_of k (listed_in p) ≡ Some t → id_of t.id (listed_in p) ≡ Some t
  pub at_position : (s : List ℕ) (at k : ℕ) (w : Packet) (t : Track) → packet_at s at type_map ≡ Ok w → track_at s at k ≡ Ok t → kth_of k (listed_in (part at (at + w.len) s)) ≡ Some t
