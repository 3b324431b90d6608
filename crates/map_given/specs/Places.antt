-- Where the parts of a record stand: in a record whose words are their own numbers, each part of it, as Given.antt takes it apart, shows its place.
use Rattle.std.specs.Prelude.{ℕ, zero, suc, ◌+◌, List, [], ◌∷◌, map, eqb}
use Rattle.plate.specs.Choice.{pick}
use Rattle.map_given.specs.declared.Slot.{Slot}
use Rattle.map_given.specs.Given.{material_slots, Given, track_at}

-- n words, each its own number
unfoldable pub numbered : ℕ → ℕ → List ℕ
numbered zero at = []
numbered (suc n) at = at ∷ numbered n (at + 1)

-- the first word of a tag's slot
unfoldable pub place_in : List Slot → ℕ → ℕ
place_in [] tag = 0
place_in (s ∷ ss) tag = pick (eqb s.tag tag) s.mark (place_in ss tag)

-- the material: 40 to 45
unfoldable pub material_places : List ℕ
material_places = map (place_in (material_slots (numbered 18 0))) (0x40 ∷ 0x41 ∷ 0x42 ∷ 0x43 ∷ 0x44 ∷ 0x45 ∷ [])

-- a track: type, ID, and 4C to 52
abbrev places_of : Given → List ℕ
places_of t = t.media_type ∷ t.id ∷ map (place_in t.slots) (0x4C ∷ 0x4D ∷ 0x4E ∷ 0x4F ∷ 0x50 ∷ 0x51 ∷ 0x52 ∷ [])

unfoldable pub track_places : List ℕ
track_places = places_of (track_at (numbered 23 0) 0)
