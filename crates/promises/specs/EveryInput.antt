-- Demand 1: every input there is. Each call ends with its answer or one numbered refusal and a place (with 5 the bytes lacking too: page `BytesLacking`); a refused call has written nothing into what it was lent.
-- Every answer is an enum whose last case is the refusal, or holds one (`Stop`); a name is a part, empty where it is refused, and `name_place` tells the refusal. That a call ends is part of its
-- function's own proof, and none of these asks anything of its caller (docs/PROMISES.md, "Functions that ask"). Here: on the same input two calls have the same outcome, answer and buffer,
-- whatever the contract leaves open (an outcome of a call is any that its contract allows: paper_readings/specs/Calls.antt), and a refused call leaves what it was lent. Proved in proofs/EveryInput.antt.
use Rattle.std.specs.Prelude.{ℕ, ◌≡◌, List, Result, Err}
use Rattle.plate.specs.declared.Refusal.{Refusal}
use Rattle.walker.specs.declared.Stop.{Stop}
use Rattle.walker.specs.declared.Walker.{Walker}
use Rattle.walker.specs.Walk.{Stepped}
use Rattle.map_answer.specs.declared.Track.{Track}
use Rattle.map_records.specs.Fill.{Filled}
use Rattle.map_name.specs.declared.OfTwo.{OfTwo}
use Rattle.locator.specs.declared.Locator.{Locator}
use Rattle.map.specs.declared.MapSays.{MapSays}
use Rattle.map_items.specs.declared.Part.{Part}
use Rattle.media.specs.declared.Media.{Media}
use Rattle.mpeg_parameter.specs.declared.Parameters.{Parameters as AllParameters}
use Rattle.packet.specs.declared.Packet.{Packet}
use Rattle.paper_readings.specs.Calls.{Headers, OfType, Walks, ReadsMap, ReadsTrack, Checks, Seeks, Looks, Tables, Positions, Preambles, Places, PlacesOfTwo, Names, NamesOfTwo, Parameters, BuildsInto, WritesMap, WritesLocator}

pub record EveryInput : Type 0 where
  -- a packet's header, a packet of an asked type, a step of a walker (the answer and the whole struct), and a walk of n steps
  pub header : (s : List ℕ) (at : ℕ) (x y : Result Packet Refusal) → Headers s at x → Headers s at y → x ≡ y
  pub of_type : (s : List ℕ) (at type : ℕ) (x y : Result Packet Refusal) → OfType s at type x → OfType s at type y → x ≡ y
  pub step : (w : Walker) (x y : Result Packet Refusal) (u v : Walker) → Stepped w x u → Stepped w y v → (x ≡ y) × (u ≡ v)
  pub walk : (s : List ℕ) (at n : ℕ) (x y : Stop) → Walks s at n x → Walks s at n y → x ≡ y
  -- a map, the record of a track by its number, all records into lent ones, and the part that is a name, of one map and of two
  pub map : (s : List ℕ) (at : ℕ) (x y : Result MapSays Refusal) → ReadsMap s at x → ReadsMap s at y → x ≡ y
  pub track : (s : List ℕ) (at k : ℕ) (x y : Result Track Refusal) → ReadsTrack s at k x → ReadsTrack s at k y → x ≡ y
  pub fill : (ys : List Track) (s : List ℕ) (at : ℕ) (x y : Result MapSays Refusal) (us vs : List Track) → Filled ys s at x us → Filled ys s at y vs → (x ≡ y) × (us ≡ vs)
  pub place : (s : List ℕ) (id : ℕ) (x y : Result Part Refusal) → Places s id x → Places s id y → x ≡ y
  pub name : (s : List ℕ) (id : ℕ) (x y : List ℕ) → Names s id x → Names s id y → x ≡ y
  pub place_of_two_lem : (m n : List ℕ) (id : ℕ) (x y : Result OfTwo Refusal) → PlacesOfTwo m n id x → PlacesOfTwo m n id y → x ≡ y
  pub name_of_two : (m n : List ℕ) (id : ℕ) (x y : List ℕ) → NamesOfTwo m n id x → NamesOfTwo m n id y → x ≡ y
  -- the field locator table, the media preamble and auxiliary text
  pub table : (s : List ℕ) (at : ℕ) (x y : Result Locator Refusal) → Tables s at x → Tables s at y → x ≡ y
  pub position : (s : List ℕ) (at d : ℕ) (x y : Result ℕ Refusal) → Positions s at d x → Positions s at d y → x ≡ y
  pub preamble : (s : List ℕ) (at : ℕ) (x y : Result Media Refusal) → Preambles s at x → Preambles s at y → x ≡ y
  pub parameters : (s : List ℕ) (x y : Result AllParameters Refusal) → Parameters s x → Parameters s y → x ≡ y
  -- a whole stream, a seek in it, and a look-up in a seek book
  pub check : (s : List ℕ) (x y : Result ℕ Refusal) → Checks s x → Checks s y → x ≡ y
  pub seek : (s : List ℕ) (track field : ℕ) (x y : Result ℕ Refusal) → Seeks s track field x → Seeks s track field y → x ≡ y
  pub lookup : (s : List ℕ) (track field : ℕ) (x y : Result ℕ Refusal) → Looks s track field x → Looks s track field y → x ≡ y
  -- what is written into a lent buffer: a seek book, a map, a locator table
  pub build : (l s : List ℕ) (x y : Result ℕ Refusal) (o p : List ℕ) → BuildsInto l s x o → BuildsInto l s y p → (x ≡ y) × (o ≡ p)
  pub write_map : (out : List ℕ) (at : ℕ) (text ms ts : List ℕ) (x y : Result ℕ Refusal) (o p : List ℕ) → WritesMap out at text ms ts x o → WritesMap out at text ms ts y p → (x ≡ y) × (o ≡ p)
  pub write_locator : (out : List ℕ) (at step : ℕ) (ns : List ℕ) (x y : Result ℕ Refusal) (o p : List ℕ) → WritesLocator out at step ns x o → WritesLocator out at step ns y p → (x ≡ y) × (o ≡ p)
  -- a refused call has written nothing: the walker, every record and every byte is as it was. `Stepped` and `Filled` are the contracts of `step` and `fill`, by name (tools/promises.py holds them to it)
  pub step_refused : (w : Walker) (r : Refusal) (v : Walker) → Stepped w (Err r) v → v ≡ w
  pub fill_refused : (ys : List Track) (s : List ℕ) (at : ℕ) (r : Refusal) (zs : List Track) → Filled ys s at (Err r) zs → zs ≡ ys
  pub build_refused : (l s : List ℕ) (r : Refusal) (o : List ℕ) → BuildsInto l s (Err r) o → o ≡ l
  pub write_map_refused : (out : List ℕ) (at : ℕ) (text ms ts : List ℕ) (r : Refusal) (o : List ℕ) → WritesMap out at text ms ts (Err r) o → o ≡ out
  pub write_locator_refused : (out : List ℕ) (at step : ℕ) (ns : List ℕ) (r : Refusal) (o : List ℕ) → WritesLocator out at step ns (Err r) o → o ≡ out
