-- What serves the proofs alone: what items and tracks say, with no place in it, and what the reader asks of them. The theorems about newer and written maps go by it.
use Rattle.std.specs.Prelude.{ℕ, ◌-◌, ◌≡◌, List, [], map, length, None, Ok}
use Rattle.plate.specs.Choice.{pick}
use Rattle.map_items.specs.Items.{Item}
use Rattle.map_items.specs.Judge.{judge_items}
use Rattle.map_items.specs.declared.Section.TheVariants as section
use Rattle.map_items.specs.Find.{Found, missing, found, find, part_of}
use Rattle.map_aspect.specs.Aspect.{aspect_of}
use Rattle.map_answer.specs.Answer.{value_of, code_of, is_null}
use Rattle.map_tracks.specs.Tracks.{over, judge_tracks}
use Rattle.map.specs.Encode.{TrackParts, MapParts, described}
use Rattle.map.specs.View.{Held, nothing, bytes, held_bytes, MaterialView, TrackView, MapView}
use Rattle.map.specs.Parts.{listed_of}

-- what was found: its stored length and its bytes
unfoldable pub held_of : Found → Held
held_of missing = nothing
held_of (found p v) = bytes (length v) v

-- Table 4; the place at which items are sought does not matter, so it is 0
unfoldable pub material_view_of_items : List Item → MaterialView
material_view_of_items is =
    record {
      name = held_of (find 0x40 0 is);
      first = value_of (find 0x41 0 is);
      last = value_of (find 0x42 0 is);
      mark_in = value_of (find 0x43 0 is);
      mark_out = value_of (find 0x44 0 is);
      size = value_of (find 0x45 0 is);
    }

-- what is shown of a 4D or a 4F: nothing under a null name
abbrev pub shown_of : ℕ → List Item → Held
shown_of tag is = pick (is_null (part_of (find 0x4C 0 is))) nothing (held_of (find tag 0 is))

-- Table 6; a null name hides 4D, 4E and 4F
unfoldable pub track_view_of_parts : TrackParts → TrackView
track_view_of_parts t =
    record {
      id = t.id - 0xC0;
      media_type = t.type_byte - 0x80;
      rate = code_of 0x50 (value_of (find 0x50 0 t.items));
      lines = code_of 0x51 (value_of (find 0x51 0 t.items));
      fields = code_of 0x52 (value_of (find 0x52 0 t.items));
      version = pick (is_null (part_of (find 0x4C 0 t.items))) None (value_of (find 0x4E 0 t.items));
      name = held_of (find 0x4C 0 t.items);
      aux = shown_of 0x4D t.items;
      mpeg = shown_of 0x4F t.items;
      aspect = aspect_of (t.type_byte - 0x80) (held_bytes (shown_of 0x4D t.items)) (held_bytes (shown_of 0x4F t.items));
    }

-- the answer: the count of listed tracks, the material, and the records in order
unfoldable pub view_of_parts : MapParts → MapView
view_of_parts p =
    record {
      count = length (listed_of p.tracks);
      material = material_view_of_items p.material;
      tracks = map track_view_of_parts (listed_of p.tracks);
    }

-- what the reader asks of items and tracks, by its own judges; whether they accept does not depend on the place, so it is 0
abbrev pub Good : MapParts → Type 0
Good p = (judge_items section.Material [] 0 p.material ≡ (Ok tt)) × (judge_tracks [] 0 (map described p.tracks) over ≡ (Ok tt))
