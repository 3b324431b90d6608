-- What serves the code alone: the sizes that the writer counts before it writes.
use Rattle.std.specs.Prelude.{ℕ, ◌+◌, List, [], ◌∷◌, map, ltb, eqb}
use Rattle.plate.specs.Choice.{pick}
use Rattle.map_given.specs.Given.{Given}
use Rattle.map_given.specs.Faults.{is_text, is_eight}
use Rattle.map_writer.specs.Write.{parts_of_track}
use Rattle.map.specs.Encode.{described}
use Rattle.map_tracks.specs.Tracks as tracks
use Rattle.map_given.specs.declared.Slot.{Slot}

-- tag, length and value; a text has its 00, and no more than 254 bytes before it
unfoldable pub slot_size : Slot → ℕ
slot_size s =
    pick (eqb s.mark 1)
    (pick (is_text s.tag) (pick (ltb 254 s.second) 0 (3 + s.second)) (pick (is_eight s.tag) 10 6))
    0

unfoldable pub slots_size : List Slot → ℕ
slots_size [] = 0
slots_size (s ∷ ss) = slot_size s + slots_size ss

-- type, ID and length, and the items
unfoldable pub tracks_size : List Given → ℕ
tracks_size [] = 0
tracks_size (t ∷ ts) = 4 + slots_size t.slots + tracks_size ts

-- tracks as their bytes
unfoldable pub tracks_bytes : List ℕ → List Given → List ℕ
tracks_bytes text ts = tracks.descriptions_bytes (map described (map (parts_of_track text) ts))
