-- The items and tracks of a map packet, by lengths alone, and those of them that are listed.
use Rattle.std.specs.Prelude.{ℕ, List, [], ◌∷◌, map, get_or, take, drop}
use Rattle.plate.specs.Choice.{pick}
use Rattle.map_items.specs.Items.{section_of}
use Rattle.map_tracks.specs.Tracks.{Description, tracks_of, is_listed}
use Rattle.map.specs.Map.{layout_of, material_in, tracks_in}
use Rattle.map.specs.Encode.{TrackParts, MapParts, described}

-- the tracks of known media type, in map order
unfoldable pub listed_of : List TrackParts → List TrackParts
listed_of [] = []
listed_of (t ∷ ts) = pick (is_listed (described t)) (t ∷ listed_of ts) (listed_of ts)

-- a track's items, by lengths alone
unfoldable pub opened : Description → TrackParts
opened d = record { type_byte = d.type_byte; id = d.id; items = (section_of d.items).list }

-- the parts of a map packet, by lengths alone: the reserved bytes stand at 10 and at 17
unfoldable pub parts_of : List ℕ → MapParts
parts_of p =
    record {
      spare = take 4 (drop 10 p);
      second = get_or p 17 0;
      material = (section_of (material_in p (layout_of p))).list;
      tracks = map opened (tracks_of (tracks_in p (layout_of p))).list;
    }
