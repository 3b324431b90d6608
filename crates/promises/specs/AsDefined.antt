-- Demand 2, the definitions: what the functions give is what the definitions say, and each gives that. So a function that refuses all, or gives one answer on all, is shut out wherever its definition is
-- neither; that the definitions are neither is computed (paper_readings, Given.antt, Pairs.antt). Proved in proofs/AsDefined.antt.
use Rattle.std.specs.Prelude.{ℕ, ◌≡◌, List, Result}
use Rattle.packet.specs.Packet.{header_at, packet_at}
use Rattle.walker.specs.Walk.{walk_of}
use Rattle.walker.specs.declared.Stop.{Stop}
use Rattle.map.specs.Map.{map_at, track_at}
use Rattle.map_name.specs.Name.{name_at, name_bytes, place_in, name_of_two_at, two_bytes, place_of_two}
use Rattle.map_name.specs.declared.OfTwo.{OfTwo}
use Rattle.locator.specs.declared.Locator.{Locator}
use Rattle.map.specs.declared.MapSays.{MapSays}
use Rattle.map_answer.specs.declared.Track.{Track}
use Rattle.map_items.specs.declared.Part.{Part}
use Rattle.media.specs.declared.Media.{Media}
use Rattle.mpeg_parameter.specs.declared.Parameters.{Parameters as AllParameters}
use Rattle.packet.specs.declared.Packet.{Packet}
use Rattle.plate.specs.declared.Refusal.{Refusal}
use Rattle.locator.specs.Locator.{table_at, position_at}
use Rattle.media.specs.Media.{preamble_at}
use Rattle.mpeg.specs.Read.{read_of}
use Rattle.stream.specs.Stream.{check_of, seek_of}
use Rattle.book.specs.Book.{lookup_of}
use Rattle.book_builder.specs.BookBuilder.{build_answer, built_in}
use Rattle.map_writer.specs.Write.{map_written_answer, map_written_in}
use Rattle.locator_writer.specs.Write.{locator_answer, locator_written_in}
use Rattle.paper_readings.specs.Calls.{Headers, OfType, Walks, ReadsMap, ReadsTrack, Checks, Seeks, Looks, Tables, Positions, Preambles, Places, PlacesOfTwo, HandsOut, HandsOutOfTwo, Parameters, BuildsInto, WritesMap, WritesLocator}

pub record AsDefined : Type 0 where
  -- a packet's header, and a packet of an asked type; a walk of n steps
  pub header : (s : List ℕ) (at : ℕ) (x : Result Packet Refusal) → Headers s at x → x ≡ header_at s at
  pub header_given : (s : List ℕ) (at : ℕ) → Headers s at (header_at s at)
  pub of_type : (s : List ℕ) (at type : ℕ) (x : Result Packet Refusal) → OfType s at type x → x ≡ packet_at s at type
  pub of_type_given : (s : List ℕ) (at type : ℕ) → OfType s at type (packet_at s at type)
  pub walk : (s : List ℕ) (at n : ℕ) (x : Stop) → Walks s at n x → x ≡ walk_of s at n
  pub walk_given : (s : List ℕ) (at n : ℕ) → Walks s at n (walk_of s at n)
  -- a map, a track's record by its number, the place of a name in one map and in two
  pub map : (s : List ℕ) (at : ℕ) (x : Result MapSays Refusal) → ReadsMap s at x → x ≡ map_at s at
  pub map_given_lem : (s : List ℕ) (at : ℕ) → ReadsMap s at (map_at s at)
  pub track : (s : List ℕ) (at k : ℕ) (x : Result Track Refusal) → ReadsTrack s at k x → x ≡ track_at s at k
  pub track_given_lem : (s : List ℕ) (at k : ℕ) → ReadsTrack s at k (track_at s at k)
  pub place : (s : List ℕ) (id : ℕ) (x : Result Part Refusal) → Places s id x → x ≡ name_at s id
  pub place_given : (s : List ℕ) (id : ℕ) → Places s id (name_at s id)
  pub place_of_two_lem : (m n : List ℕ) (id : ℕ) (x : Result OfTwo Refusal) → PlacesOfTwo m n id x → x ≡ name_of_two_at m n id
  pub place_of_two_given : (m n : List ℕ) (id : ℕ) → PlacesOfTwo m n id (name_of_two_at m n id)
  -- the field locator table and a position by it, the media preamble, auxiliary text
  pub table : (s : List ℕ) (at : ℕ) (x : Result Locator Refusal) → Tables s at x → x ≡ table_at s at
  pub table_given : (s : List ℕ) (at : ℕ) → Tables s at (table_at s at)
  pub position : (s : List ℕ) (at d : ℕ) (x : Result ℕ Refusal) → Positions s at d x → x ≡ position_at s at d
  pub position_given : (s : List ℕ) (at d : ℕ) → Positions s at d (position_at s at d)
  pub preamble : (s : List ℕ) (at : ℕ) (x : Result Media Refusal) → Preambles s at x → x ≡ preamble_at s at
  pub preamble_given : (s : List ℕ) (at : ℕ) → Preambles s at (preamble_at s at)
  pub parameters : (s : List ℕ) (x : Result AllParameters Refusal) → Parameters s x → x ≡ read_of s
  pub parameters_given : (s : List ℕ) → Parameters s (read_of s)
  -- a whole stream, a seek in it, a look-up in a book
  pub check : (s : List ℕ) (x : Result ℕ Refusal) → Checks s x → x ≡ check_of s
  pub check_given : (s : List ℕ) → Checks s (check_of s)
  pub seek : (s : List ℕ) (track field : ℕ) (x : Result ℕ Refusal) → Seeks s track field x → x ≡ seek_of s track field
  pub seek_given : (s : List ℕ) (track field : ℕ) → Seeks s track field (seek_of s track field)
  pub lookup : (s : List ℕ) (track field : ℕ) (x : Result ℕ Refusal) → Looks s track field x → x ≡ lookup_of s track field
  pub lookup_given : (s : List ℕ) (track field : ℕ) → Looks s track field (lookup_of s track field)
  -- a name is a part of the lent map, or of one of two: its bytes, and where it begins; an empty part at the map's start where it is refused
  pub name : (s : List ℕ) (at : ℕ × ℕ) (id : ℕ) (v : List ℕ) (q : ℕ × ℕ) → HandsOut s at id v q → (v ≡ name_bytes s (name_at s id)) × (q ≡ place_in at (name_at s id))
  pub name_of_two : (m : List ℕ) (at : ℕ × ℕ) (n : List ℕ) (there : ℕ × ℕ) (id : ℕ) (v : List ℕ) (q : ℕ × ℕ) → HandsOutOfTwo m at n there id v q
      → (v ≡ two_bytes m n (name_of_two_at m n id)) × (q ≡ place_of_two at there (name_of_two_at m n id))
  -- what is written into a lent buffer: the answer, and what the buffer then holds
  pub build : (l s : List ℕ) (x : Result ℕ Refusal) (o : List ℕ) → BuildsInto l s x o → (x ≡ build_answer l s) × (o ≡ built_in l s)
  pub build_given : (l s : List ℕ) → BuildsInto l s (build_answer l s) (built_in l s)
  pub write_map : (out : List ℕ) (at : ℕ) (text ms ts : List ℕ) (x : Result ℕ Refusal) (o : List ℕ) → WritesMap out at text ms ts x o → (x ≡ map_written_answer out at text ms ts) × (o ≡ map_written_in out at text ms ts)
  pub write_map_given : (out : List ℕ) (at : ℕ) (text ms ts : List ℕ) → WritesMap out at text ms ts (map_written_answer out at text ms ts) (map_written_in out at text ms ts)
  pub write_locator : (out : List ℕ) (at step : ℕ) (ns : List ℕ) (x : Result ℕ Refusal) (o : List ℕ) → WritesLocator out at step ns x o → (x ≡ locator_answer out at step ns) × (o ≡ locator_written_in out at step ns)
  pub write_locator_given : (out : List ℕ) (at step : ℕ) (ns : List ℕ) → WritesLocator out at step ns (locator_answer out at step ns) (locator_written_in out at step ns)
