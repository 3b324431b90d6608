-- What was given, as an answer shows it, places aside: what a reader of the written map is to be told.
use Rattle.std.specs.Prelude.{ℕ, zero, suc, ◌+◌, ◌/◌, List, [], ◌∷◌, ◌++◌, length, get_or, take, drop, eqb, Option, Some, None}
use Rattle.plate.specs.Choice.{pick}
use Rattle.map_aspect.specs.Aspect.{aspect_of}
use Rattle.map_answer.specs.declared.Code.{Code}
use Rattle.map_answer.specs.declared.Code.TheVariants as code
use Rattle.map.specs.View.{Held, nothing, bytes, held_bytes, MaterialView, TrackView, MapView}
use Rattle.map_given.specs.declared.Slot.{Slot}
use Rattle.map_given.specs.Given.{slot_at}

-- the part of the text that was given, and its 00
unfoldable pub text_given : List ℕ → Slot → Held
text_given text s = pick (eqb s.mark 1) (bytes (s.second + 1) (take s.second (drop s.first text) ++ (0 ∷ []))) nothing

-- the eight bytes that were given
unfoldable pub eight_given : List ℕ → Slot → Held
eight_given text s = pick (eqb s.mark 1) (bytes 8 (take 8 (drop s.first text))) nothing

-- the number as it was given
unfoldable pub value_given : Slot → Option ℕ
value_given s = pick (eqb s.mark 1) (Some s.first) None

-- the code: −1 is not applicable, −2 not available
unfoldable pub code_given : Slot → Code
code_given s =
    pick (eqb s.mark 1)
    (pick (eqb s.first 0xFFFFFFFFFFFFFFFF) code.NotApplicable
    (pick (eqb s.first 0xFFFFFFFFFFFFFFFE) code.NotAvailable
    (code.Is s.first)))
    code.Absent

-- the material's slots stand at words 0, 3, 6 and so on
unfoldable pub material_view_given : List ℕ → List ℕ → MaterialView
material_view_given text ms =
    record {
      name = text_given text (slot_at ms 0 0x40);
      first = value_given (slot_at ms 3 0x41);
      last = value_given (slot_at ms 6 0x42);
      mark_in = value_given (slot_at ms 9 0x43);
      mark_out = value_given (slot_at ms 12 0x44);
      size = value_given (slot_at ms 15 0x45);
    }

-- a track's record that begins at a word: type, ID, and its slots; no word is the aspect, which follows from the type, the 4D and the text that are given (02, §11)
unfoldable pub track_view_given : List ℕ → List ℕ → ℕ → TrackView
track_view_given text ts at =
    record {
      id = get_or ts (at + 1) 0;
      media_type = get_or ts at 0;
      rate = code_given (slot_at ts (at + 14) 0x50);
      lines = code_given (slot_at ts (at + 17) 0x51);
      fields = code_given (slot_at ts (at + 20) 0x52);
      version = value_given (slot_at ts (at + 8) 0x4E);
      name = text_given text (slot_at ts (at + 2) 0x4C);
      aux = eight_given text (slot_at ts (at + 5) 0x4D);
      mpeg = text_given text (slot_at ts (at + 11) 0x4F);
      aspect = aspect_of (get_or ts at 0) (held_bytes (eight_given text (slot_at ts (at + 5) 0x4D))) (held_bytes (text_given text (slot_at ts (at + 11) 0x4F)));
    }

-- n records, one after another
unfoldable pub track_views_given : ℕ → List ℕ → List ℕ → ℕ → List TrackView
track_views_given zero text ts at = []
track_views_given (suc n) text ts at = track_view_given text ts at ∷ track_views_given n text ts (at + 23)

-- every track is listed, in the given order
unfoldable pub view_given : List ℕ → List ℕ → List ℕ → MapView
view_given text ms ts = record { count = length ts / 23; material = material_view_given text ms; tracks = track_views_given (length ts / 23) text ts 0 }
