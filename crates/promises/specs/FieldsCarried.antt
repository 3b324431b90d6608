-- Demand 2, odd fields on progressive tracks (02, §2): which fields a packet carries, what seek, builder and look-up make of it, and what is as it was before. Proved in proofs/FieldsCarried.antt.
-- The laws are those of the definitions; the last five say the same of the calls.
use Rattle.std.specs.Prelude.{ℕ, ◌+◌, ◌^◌, ◌<◌, ◌≤◌, ◌≡◌, true, List, ◌∷◌, ◌++◌, get_or, Some, Result, Ok, Err}
use Rattle.plate.specs.Plate.{refusal}
use Rattle.field.specs.Field.{is_even}
use Rattle.field.specs.Marks.{KnownMarks}
use Rattle.map_answer.specs.Answer.{OneAlone}
use Rattle.map_answer.specs.declared.Code.TheVariants as code
use Rattle.map_answer.specs.declared.Track.{Track}
use Rattle.plate.specs.declared.Refusal.{Refusal}
use Rattle.plate.specs.declared.Fault.TheVariants as fault
use Rattle.map_tracks.specs.Tracks.{id_of}
use Rattle.map.specs.Map.{listed_in}
use Rattle.map.specs.Table.{Table}
use Rattle.stream.specs.Stream.{Placed, packets}
use Rattle.stream.specs.OddFields.{Media, states, seek_stated, Latest, bytes_of, NeverOne, AnswersBy, OddFields}
use Rattle.book.specs.Marked.{Marked}
use Rattle.book_builder.specs.OddFields.{BookMarks}
use Rattle.paper_readings.specs.Calls.{Checks, Seeks}
use Rattle.paper_readings.specs.OddFields.{OddReadings}

pub record FieldsCarried : Type 0 where
  -- item 52 says fields per frame 1 with the number 1 alone; the mark beside a known type takes nothing from it
  pub codes : OneAlone
  pub marks : KnownMarks
  -- the table by ID says what the latest map's records say, and without the marks it is 01's, so that no check is another
  pub table : Table
  -- what a packet carries by its latest map, what seek makes of it, and where its answers are 01's
  pub carried : OddFields
  -- what a lent book's marks mean, and what marks a built book has
  pub book : Marked
  pub built : BookMarks
  -- the readings of the request, computed
  pub read_so : OddReadings
  -- of the calls: the field above an even number of a progressive track is found; what was found before is found still, no later; even fields, and streams whose maps never say 1, are answered as before; fields over 32 bits are not there
  pub above : (s : List ℕ) (n : ℕ) → Checks s (Ok n) → (m x : Placed) → Latest s m x → (t : Track) → id_of x.piece.track (listed_in (bytes_of s m)) ≡ Some t → t.fields ≡ code.Is 1
      → Media x → is_even x.piece.field ≡ true → (a : Result ℕ Refusal) → Seeks s x.piece.track (x.piece.field + 1) a → AnswersBy a x.at
  pub still : (s : List ℕ) (n : ℕ) → Checks s (Ok n) → (track field : ℕ) (before : List Placed) (x : Placed) (after : List Placed) → (packets s).list ≡ before ++ (x ∷ after)
      → states track field x ≡ true → (a : Result ℕ Refusal) → Seeks s track field a → AnswersBy a x.at
  pub even_before : (s : List ℕ) (track field : ℕ) → is_even field ≡ true → (a : Result ℕ Refusal) → Seeks s track field a → a ≡ seek_stated s track field
  pub as_before : (s : List ℕ) → NeverOne s (packets s).list → (track field : ℕ) (a : Result ℕ Refusal) → Seeks s track field a → a ≡ seek_stated s track field
  pub wide : (s : List ℕ) → ((i : ℕ) → get_or s i 0 < 256) → (n : ℕ) → Checks s (Ok n) → (track field : ℕ) → 2 ^ 32 ≤ field → (a : Result ℕ Refusal) → Seeks s track field a → a ≡ Err (refusal fault.NotThere 0)
