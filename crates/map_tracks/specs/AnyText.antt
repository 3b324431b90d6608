-- What a 4F says is no matter of a verdict (02, §11: "A malformed 4F gives unknown and no refusal"), beyond the text rule. Proved in proofs/AnyText.antt.
use Rattle.std.specs.Prelude.{ℕ, ◌-◌, ◌≡◌, true, List, ◌∷◌, ◌++◌, length, Ok}
use Rattle.text.specs.Text.{text_ok}
use Rattle.map_items.specs.Items.{Item, items_bytes}
use Rattle.map_aspect.specs.Meaning.{Mpeg}
use Rattle.map_tracks.specs.Tracks.{track_verdict}

-- the items of a track, among them a 4F
abbrev pub with_text : List Item → List ℕ → List Item → List Item
with_text before v after = before ++ (record { tag = 0x4F; value = v } ∷ after)

-- two texts in the 4F of a track whose items stand at p
pub record AnyText (type_byte p : ℕ) (before after : List Item) (v w : List ℕ) : Type 0 where
  -- as long as each other: the verdict on the track is the same, whatever its type and whatever the verdict
  pub same : text_ok v ≡ true → text_ok w ≡ true → length v ≡ length w → track_verdict type_byte (items_bytes (with_text before v after)) p ≡ track_verdict type_byte (items_bytes (with_text before w after)) p
  -- of any length: a track of MPEG video that passes with the one passes with the other
  pub passes : Mpeg (type_byte - 0x80) → text_ok w ≡ true → track_verdict type_byte (items_bytes (with_text before v after)) p ≡ (Ok tt) → track_verdict type_byte (items_bytes (with_text before w after)) p ≡ (Ok tt)
