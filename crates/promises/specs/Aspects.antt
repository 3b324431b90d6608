-- Demands 2 and 3, the aspect in a track's record (02, §11): 4x3, 16x9 or unknown, by the track's type and by what it shows of 4D and 4F. Proved in proofs/Aspects.antt.
-- `AspectSays` says what it is of every type and any bytes, `AspectIn` that the record of a track has it. Alike answers have equal aspects, and what was written reads back with the one that follows.
use Rattle.std.specs.Prelude.{ℕ, ◌+◌, ◌<◌, ◌≤◌, ◌≡◌, List, map, length, get_or, take, Option, Some, Result, Ok}
use Rattle.plate.specs.Part.{part}
use Rattle.packet.specs.Packet.{type_map, packet_at}
use Rattle.packet.specs.declared.Packet.{Packet}
use Rattle.map_aspect.specs.Aspect.{by_answer, aspect_of}
use Rattle.map_aspect.specs.Meaning.{Mpeg, AspectSays, NoneShown}
use Rattle.map_aspect.specs.declared.Aspect.{Aspect}
use Rattle.map_answer.specs.declared.Track.{Track}
use Rattle.map_items.specs.Items.{Item}
use Rattle.map_tracks.specs.AnyText.{AnyText}
use Rattle.map.specs.View.{TrackView, view_in}
use Rattle.map.specs.Aspect.{AspectIn, RecordAspects}
use Rattle.map.specs.declared.MapSays.{MapSays}
use Rattle.mpeg_parameter.specs.declared.Parameters.{Parameters as AllParameters}
use Rattle.plate.specs.declared.Refusal.{Refusal}
use Rattle.map_records.specs.Fill.{Filled}
use Rattle.map_newer.specs.Demand.{Accepted, Alike}
use Rattle.map_newer.specs.Functions as newer
use Rattle.map_writer.specs.ViewGiven.{view_given}
use Rattle.map_writer.specs.Readers.{TrackGives, KthIs}
use Rattle.paper_readings.specs.Calls.{ReadsTrack, Parameters, WritesMap}
use Rattle.paper_readings.specs.Table.{Agree}
use Rattle.paper_readings.specs.Aspects.{aspects}

-- the aspects of some records, and of what an answer shows, in order
abbrev pub aspects_of : List Track → List Aspect
aspects_of ts = map (λ t. t.aspect) ts

abbrev pub aspects_shown : List TrackView → List Aspect
aspects_shown ts = map (λ t. t.aspect) ts

pub record Aspects : Type 0 where
  -- of every type, and any bytes of a 4D and of a 4F: the bit of a valid 4D, the `ar` of a text that reads, else unknown; without the bytes unknown
  pub says : (media_type : ℕ) (aux text : List ℕ) → AspectSays media_type aux text
  pub none_shown : NoneShown
  -- of MPEG video it is by whatever `mpeg::read` gives of the text
  pub reader : (media_type : ℕ) (aux text : List ℕ) → Mpeg media_type → (x : Result AllParameters Refusal) → Parameters text x → aspect_of media_type aux text ≡ by_answer x
  -- what a 4F says brings no refusal of its track: with another text as long the verdict on the track is the same, and a track of MPEG video that passes does so with any other text
  pub any_text : (type_byte p : ℕ) (before after : List Item) (v w : List ℕ) → AnyText type_byte p before after v w
  -- the readings of the request, computed
  pub read_so : Agree aspects
  -- a record's aspect is by its own type and the bytes that it points at, and under a null name unknown; by number, by ID and at a position it is one record
  pub records : RecordAspects
  -- so it is in what `track` gives, in what `id_of` gives, and in lent records
  pub track : (s : List ℕ) (at k : ℕ) (w : Packet) → packet_at s at type_map ≡ Ok w → (t : Track) → ReadsTrack s at k (Ok t) → AspectIn (part at (at + w.len) s) t
  pub by_id_lem : (p : List ℕ) (id : ℕ) (t : Track) → newer.IdGives p id (Some t) → AspectIn p t
  pub fill : (ys zs : List Track) (s : List ℕ) (at : ℕ) (m : MapSays) → Filled ys s at (Ok m) zs → (k : ℕ) → k < m.count → (y : Track)
      → ((x : Result Track Refusal) → ReadsTrack s at k x → x ≡ Ok (get_or zs k y))
      × ((w : Packet) → packet_at s at type_map ≡ Ok w → AspectIn (part at (at + w.len) s) (get_or zs k y))
  -- on a map that is accepted the functions give one record: the k-th of lent ones is what `track` gives for k (`fill`), and what `track` gives is what `id_of` gives for its ID
  pub one_record : (m : List ℕ) → Accepted m → (k : ℕ) (t : Track) → newer.TrackGives m k (Ok t) → (y : Option Track) → newer.IdGives m t.id y → y ≡ Some t
  -- demand 3: of two accepted maps that answer alike the records that the functions give have equal aspects, by number, by ID and lent. Which maps do is `NewerMaps`': a map and what striking leaves of it, and a map with an unknown item set in
  pub alike_track : (m n : List ℕ) → Accepted m → Accepted n → Alike m n → (k : ℕ) (t u : Track) → newer.TrackGives m k (Ok t) → newer.TrackGives n k (Ok u) → t.aspect ≡ u.aspect
  pub alike_id : (m n : List ℕ) → Accepted m → Accepted n → Alike m n → (id : ℕ) (t u : Track) → newer.IdGives m id (Some t) → newer.IdGives n id (Some u) → t.aspect ≡ u.aspect
  pub alike_fill : (m n : List ℕ) → Accepted m → Accepted n → Alike m n → (ys zs us vs : List Track) (r q : Result MapSays Refusal) → newer.FillGives m ys r zs → newer.FillGives n us q vs
      → (view_in m).count ≤ length ys → (view_in n).count ≤ length us → aspects_of (take (view_in m).count zs) ≡ aspects_of (take (view_in n).count vs)
  -- what was written reads back with the aspects that follow from the types, 4D and texts that were given
  pub written : (out : List ℕ) (at : ℕ) (text ms ts : List ℕ) (n : ℕ) (o : List ℕ) → WritesMap out at text ms ts (Ok n) o
      → (k : ℕ) (y : Result Track Refusal) → TrackGives o at k y → KthIs (λ t. t.aspect) (aspects_shown (view_given text ms ts).tracks) k y
