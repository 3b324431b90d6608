-- What a map's answer says, places aside (01, "Map"): two answers are alike when all else agrees and the bytes at the places do.
use Rattle.std.specs.Prelude.{ℕ, List, [], map, length, take, drop, Option, Some, None}
use Rattle.map_aspect.specs.declared.Aspect.{Aspect}
use Rattle.map_answer.specs.declared.Code.{Code}
use Rattle.map_answer.specs.declared.Material.{Material}
use Rattle.map_answer.specs.declared.Track.{Track}
use Rattle.map_items.specs.declared.Part.{Part}
use Rattle.map_tracks.specs.Tracks.{record_of}
use Rattle.map.specs.Map.{material_says, listed_in}

-- an item that is not there, or its stored length and the bytes at its place
pub data Held : Type 0 where
  nothing : Held
  bytes : ℕ → List ℕ → Held

abbrev pub held_at : List ℕ → Option Part → Held
held_at p (Some q) = bytes q.len (take q.len (drop q.at p))
held_at p None = nothing

-- those bytes; none where nothing is there
abbrev pub held_bytes : Held → List ℕ
held_bytes nothing = []
held_bytes (bytes n v) = v

pub record MaterialView : Type 0 where
  pub name : Held
  pub first : Option ℕ
  pub last : Option ℕ
  pub mark_in : Option ℕ
  pub mark_out : Option ℕ
  pub size : Option ℕ

pub record TrackView : Type 0 where
  pub id : ℕ
  pub media_type : ℕ
  pub rate : Code
  pub lines : Code
  pub fields : Code
  pub version : Option ℕ
  pub name : Held
  pub aux : Held
  pub mpeg : Held
  pub aspect : Aspect

-- the answer on a whole map: the count of listed tracks, the material, and the records in order
pub record MapView : Type 0 where
  pub count : ℕ
  pub material : MaterialView
  pub tracks : List TrackView

-- an answer and the packet p that its places are in
unfoldable pub material_view_in : List ℕ → Material → MaterialView
material_view_in p m =
    record {
      name = held_at p m.name;
      first = m.first;
      last = m.last;
      mark_in = m.mark_in;
      mark_out = m.mark_out;
      size = m.size;
    }

unfoldable pub track_view_in : List ℕ → Track → TrackView
track_view_in p t =
    record {
      id = t.id;
      media_type = t.media_type;
      rate = t.rate;
      lines = t.lines;
      fields = t.fields;
      version = t.version;
      name = held_at p t.name;
      aux = held_at p t.aux;
      mpeg = held_at p t.mpeg;
      aspect = t.aspect;
    }

-- what the map packet p shows, by lengths alone: on a map that the reader accepts, its answer
unfoldable pub view_in : List ℕ → MapView
view_in p =
    record {
      count = length (listed_in p);
      material = material_view_in p (material_says p);
      tracks = map (λ x. track_view_in p (record_of x)) (listed_in p);
    }
