-- Demand 2, writers: what is written reads back as what was given; what may be written is; which refusals there are; and the room that is enough. Proved in proofs/ReadsBack.antt.
-- `ReadBack` of each writer says what the definitions of the readers give at the place, and that the bytes before and after the packet are as they were; `Readers` says it of whatever the
-- readers' contracts allow there. Both speak of what was given alone: a map's view (map_writer/specs/ViewGiven.antt), a table's step and entries.
use Rattle.std.specs.Prelude.{ℕ, ◌+◌, ◌*◌, ◌≤◌, ◌≡◌, true, false, List, [], ◌∷◌, length, Result, Ok, Err, None}
use Rattle.plate.specs.Plate.{number}
use Rattle.plate.specs.declared.Refusal.{Refusal}
use Rattle.map_items.specs.Judge.{has}
use Rattle.map_given.specs.Given.{tracks_given}
use Rattle.map_given.specs.Faults.{fault_of, any_wrong}
use Rattle.map_writer.specs.Write.{map_packet}
use Rattle.map_writer.specs.Largest.{Largest}
use Rattle.locator_writer.specs.Write.{may_write}
use Rattle.map_writer.specs.ReadBack as map
use Rattle.map_writer.specs.Readers as map_readers
use Rattle.locator_writer.specs.ReadBack as locator
use Rattle.locator_writer.specs.Readers as locator_readers
use Rattle.paper_readings.specs.Calls.{WritesMap, WritesLocator}

pub record ReadsBack : Type 0 where
  -- a map, from a text, the material's words and the tracks' words, written with a length of n at a place of a buffer
  pub map : (out : List ℕ) (at : ℕ) (text ms ts : List ℕ) (n : ℕ) (o : List ℕ) → WritesMap out at text ms ts (Ok n) o → map.ReadBack out at text ms ts n o
  pub map_readers : (out : List ℕ) (at : ℕ) (text ms ts : List ℕ) (n : ℕ) (o : List ℕ) → WritesMap out at text ms ts (Ok n) o → map_readers.Readers o at n text ms ts
  -- a field locator table, from its step and its entries
  pub locator : (out : List ℕ) (at step : ℕ) (ns : List ℕ) (n : ℕ) (o : List ℕ) → WritesLocator out at step ns (Ok n) o → locator.ReadBack out at step ns n o
  pub locator_readers : (out : List ℕ) (at step : ℕ) (ns : List ℕ) (n : ℕ) (o : List ℕ) → WritesLocator out at step ns (Ok n) o → locator_readers.Readers o at step ns
  -- and what may be written is written, wherever there is room for it: an input without fault and without a wrong form
  pub map_writes : (out : List ℕ) (at : ℕ) (text ms ts : List ℕ) → fault_of text ms ts ≡ None → any_wrong (tracks_given ts) ≡ false → at + length (map_packet text ms ts) ≤ length out
      → (x : Result ℕ Refusal) (o : List ℕ) → WritesMap out at text ms ts x o → x ≡ Ok (length (map_packet text ms ts))
  pub locator_writes : (out : List ℕ) (at step : ℕ) (ns : List ℕ) → may_write step ns ≡ true → at + (24 + 4 * length ns) ≤ length out
      → (x : Result ℕ Refusal) (o : List ℕ) → WritesLocator out at step ns x o → x ≡ Ok (24 + 4 * length ns)
  -- how long a map can be: the bounds, and a map that reaches them; a length that is answered is 35,000 at most
  pub largest : Largest
  pub map_length : (out : List ℕ) (at : ℕ) (text ms ts : List ℕ) (n : ℕ) (o : List ℕ) → WritesMap out at text ms ts (Ok n) o → n ≤ 35000
  -- so 35,000 bytes from the place on are room enough for every map: no call is refused with 13 there
  pub map_room : (out : List ℕ) (at : ℕ) (text ms ts : List ℕ) → at + 35000 ≤ length out → (r : Refusal) (o : List ℕ) → WritesMap out at text ms ts (Err r) o → number r ≡ 13 → ⊥
  -- which refusals there are, all of them at place 0 and without bytes lacking: of a map 24, 11, 10, 29 and 13, of a table 24 and 13; which of them, and when, is `AsDefined`'s
  pub map_refusals : (out : List ℕ) (at : ℕ) (text ms ts : List ℕ) (r : Refusal) (o : List ℕ) → WritesMap out at text ms ts (Err r) o
      → (has (number r) (24 ∷ 11 ∷ 10 ∷ 29 ∷ 13 ∷ []) ≡ true) × (r.place ≡ 0) × (r.lacking ≡ 0)
  pub locator_refusals : (out : List ℕ) (at step : ℕ) (ns : List ℕ) (r : Refusal) (o : List ℕ) → WritesLocator out at step ns (Err r) o
      → (has (number r) (24 ∷ 13 ∷ []) ≡ true) × (r.place ≡ 0) × (r.lacking ≡ 0)
