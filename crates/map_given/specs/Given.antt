-- What the map writer is given (docs/DECISIONS.md, S12): slots of three words, in records over a lent text. A slot is for one tag.
-- Its mark is 1 for present and 0 for absent; of an absent slot no other word is looked at. A text or 4D has its place in the text first and its length second;
-- a number or a code stands first, and its second word is not looked at.
use Rattle.std.specs.Prelude.{ℕ, zero, suc, ◌+◌, ◌/◌, List, [], ◌∷◌, length, get_or}
use Rattle.map_given.specs.declared.Slot.{Slot}

-- the slot that begins at a word: its mark and its two words
abbrev pub slot_at : List ℕ → ℕ → ℕ → Slot
slot_at ws at tag = record { tag = tag; mark = get_or ws at 0; first = get_or ws (at + 1) 0; second = get_or ws (at + 2) 0 }

-- n slots, one after another, for tags that rise by one
unfoldable pub slots : ℕ → List ℕ → ℕ → ℕ → List Slot
slots zero ws at tag = []
slots (suc n) ws at tag = slot_at ws at tag ∷ slots n ws (at + 3) (tag + 1)

-- the material: six slots, for tags 40 to 45
abbrev pub material_slots : List ℕ → List Slot
material_slots ms = slots 6 ms 0 0x40

-- a track: its media type and ID, bare, and seven slots, for tags 4C to 52
pub record Given : Type 0 where
  pub media_type : ℕ
  pub id : ℕ
  pub slots : List Slot

-- a track's record has 23 words
abbrev pub track_at : List ℕ → ℕ → Given
track_at ts at = record { media_type = get_or ts at 0; id = get_or ts (at + 1) 0; slots = slots 7 ts (at + 2) 0x4C }

-- n tracks, one after another
unfoldable pub tracks_from : ℕ → List ℕ → ℕ → List Given
tracks_from zero ts at = []
tracks_from (suc n) ts at = track_at ts at ∷ tracks_from n ts (at + 23)

abbrev pub tracks_given : List ℕ → List Given
tracks_given ts = tracks_from (length ts / 23) ts 0
