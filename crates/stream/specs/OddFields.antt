-- Which fields a packet carries (RDD 14, 4.8; 02, §2), in words, and what is left of 01's "carries". Proved in proofs/OddFields.antt.
use Rattle.std.specs.Prelude.{ℕ, ◌+◌, ◌^◌, ◌<◌, ◌≤◌, ◌≡◌, Bool, true, false, List, [], ◌∷◌, ◌++◌, ◌⊎◌, get_or, take, drop, Option, Some, None, Result, Ok}
use Rattle.plate.specs.Choice.{pick}
use Rattle.packet.specs.Packet.{type_map, type_media}
use Rattle.media_type.specs.MediaType.{known_type}
use Rattle.field.specs.Field.{has_mark, is_even}
use Rattle.map_answer.specs.Answer.{is_progressive}
use Rattle.map_answer.specs.declared.Track.{Track}
use Rattle.map_answer.specs.declared.Code.TheVariants as code
use Rattle.plate.specs.declared.Refusal.{Refusal}
use Rattle.map_tracks.specs.Tracks.{id_of}
use Rattle.map_tracks.specs.Table.{NoneProgressive}
use Rattle.map.specs.Map.{listed_in, types_in}
use Rattle.stream.specs.Stream.{Placed, packets, check_of, carries_as, carries, or_not_there, if_checked, seek_of}
use Rattle.stream.specs.Sought.{NoneCarries}

-- a media packet of known type
pub record Media (x : Placed) : Type 0 where
  pub media : x.piece.packet_type ≡ type_media
  pub known : known_type x.piece.media_type ≡ true

-- a packet whose track is marked in its table; by the map itself: `by_map` below
abbrev pub Progressive : Placed → Type 0
Progressive x = has_mark (get_or x.types x.piece.track 0) ≡ true

-- it carries these fields of its track, and no other
pub record Carries (x : Placed) (These : ℕ → Type 0) : Type 0 where
  pub these : (field : ℕ) → These field → carries x.piece.track field x ≡ true
  pub no_other : (field : ℕ) → (These field → ⊥) → carries x.piece.track field x ≡ false

-- 01's "carries": the number itself and no other, whatever the map says; and seek by it
abbrev pub states : ℕ → ℕ → Placed → Bool
states track field x = carries_as false track field x.piece

unfoldable pub first_stated : ℕ → ℕ → List Placed → Option ℕ
first_stated track field [] = None
first_stated track field (x ∷ xs) = pick (states track field x) (Some x.at) (first_stated track field xs)

unfoldable pub seek_stated : List ℕ → ℕ → ℕ → Result ℕ Refusal
seek_stated s track field = if_checked (check_of s) (or_not_there (first_stated track field (packets s).list))

-- no packet of a track is progressive
abbrev pub NotProgressive : ℕ → List Placed → Type 0
NotProgressive track [] = Unit {0}
NotProgressive track (x ∷ xs) = (x.piece.track ≡ track → Progressive x → ⊥) × NotProgressive track xs

-- no map stands among some packets
abbrev pub NoMap : List Placed → Type 0
NoMap [] = Unit {0}
NoMap (x ∷ xs) = (x.piece.packet_type ≡ type_map → ⊥) × NoMap xs

-- in a stream the packet m is a map, and the latest before the packet x, which is none
pub record Latest (s : List ℕ) (m x : Placed) : Type 0 where
  pub before : List Placed
  pub between : List Placed
  pub after : List Placed
  pub all : (packets s).list ≡ before ++ (m ∷ (between ++ (x ∷ after)))
  pub map : m.piece.packet_type ≡ type_map
  pub no_map : NoMap between
  pub none : x.piece.packet_type ≡ type_map → ⊥

-- the bytes of a packet of a stream
abbrev pub bytes_of : List ℕ → Placed → List ℕ
bytes_of s x = take x.piece.len (drop x.at s)

-- no map of some packets gives a listed track fields per frame 1
abbrev pub NeverOne : List ℕ → List Placed → Type 0
NeverOne s [] = Unit {0}
NeverOne s (x ∷ xs) = (x.piece.packet_type ≡ type_map → NoneProgressive (listed_in (bytes_of s x))) × NeverOne s xs

-- seek answers, with this offset or a lower one
abbrev pub AnswersBy : Result ℕ Refusal → ℕ → Type 0
AnswersBy a at = (o : ℕ) × (a ≡ Ok o) × (o ≤ at)

pub record OddFields : Type 0 where
  -- a packet goes by the latest map before it: by that map's table, and so it is progressive just where the track that the map lists under its ID has fields per frame 1
  pub latest : (s : List ℕ) (m x : Placed) → Latest s m x → x.types ≡ types_in (bytes_of s m)
  pub by_map : (s : List ℕ) (m x : Placed) → Latest s m x → (t : Track) → id_of x.piece.track (listed_in (bytes_of s m)) ≡ Some t → has_mark (get_or x.types x.piece.track 0) ≡ is_progressive t.fields
  -- a media packet of known type: on a progressive track one with an even number carries that field and the one above, one with an odd number that field alone; on any other track one carries the field that its number is
  pub even : (x : Placed) → Media x → Progressive x → is_even x.piece.field ≡ true → Carries x (λ field. (field ≡ x.piece.field) ⊎ (field ≡ x.piece.field + 1))
  pub odd : (x : Placed) → Media x → Progressive x → is_even x.piece.field ≡ false → Carries x (λ field. field ≡ x.piece.field)
  pub other : (x : Placed) → Media x → (Progressive x → ⊥) → Carries x (λ field. field ≡ x.piece.field)
  -- of another track, or without being media of known type, a packet carries none
  pub elsewhere : (x : Placed) (track field : ℕ) → (x.piece.track ≡ track → ⊥) → carries track field x ≡ false
  pub no_media : (x : Placed) → (Media x → ⊥) → (track field : ℕ) → carries track field x ≡ false
  -- no packet of bytes carries a field over 32 bits
  pub narrow : (s : List ℕ) → ((i : ℕ) → get_or s i 0 < 256) → (track field : ℕ) → 2 ^ 32 ≤ field → NoneCarries track field (packets s).list
  -- the request: of an accepted stream whose latest map gives a packet's track fields per frame 1, the field above its even number is found, at its offset or a lower one
  pub above : (s : List ℕ) (n : ℕ) → check_of s ≡ Ok n → (m x : Placed) → Latest s m x → (t : Track) → id_of x.piece.track (listed_in (bytes_of s m)) ≡ Some t → t.fields ≡ code.Is 1
      → Media x → is_even x.piece.field ≡ true → AnswersBy (seek_of s x.piece.track (x.piece.field + 1)) x.at
  -- 16 less often: where a packet of an accepted stream carries the field by 01's word, seek still answers, with its offset or a lower one
  pub still : (s : List ℕ) (n : ℕ) → check_of s ≡ Ok n → (track field : ℕ) (before : List Placed) (x : Placed) (after : List Placed) → (packets s).list ≡ before ++ (x ∷ after)
      → states track field x ≡ true → AnswersBy (seek_of s track field) x.at
  -- the answers are as before for every even field, for every track without a progressive packet, and in every stream whose maps never say 1
  pub even_before : (s : List ℕ) (track field : ℕ) → is_even field ≡ true → seek_of s track field ≡ seek_stated s track field
  pub track_before : (s : List ℕ) (track : ℕ) → NotProgressive track (packets s).list → (field : ℕ) → seek_of s track field ≡ seek_stated s track field
  pub as_before : (s : List ℕ) → NeverOne s (packets s).list → (track field : ℕ) → seek_of s track field ≡ seek_stated s track field
