-- Demand 1, refusal 5 (02, §4): it says how many bytes lack, every reader, the walker, check, seek and builder pass that on, and no other refusal says so. Proved in proofs/BytesLacking.antt.
-- `Lacking` says what the bytes lacking are, and what more bytes behind the lent ones make of them; `CutOff`: a packet that is cut is refused so; `PassedOn`: a reader's 5 is the header's. `StreamLacking`,
-- `StreamCutOff` and `StreamOpens` say it of a whole stream. That the writers' refusals have no bytes lacking is on the page `ReadsBack`.
use Rattle.std.specs.Prelude.{ℕ, ◌≡◌, List, ◌⊎◌, Result, Ok, Err}
use Rattle.plate.specs.Plate.{number}
use Rattle.plate.specs.declared.Refusal.{Refusal}
use Rattle.packet.specs.Packet.{header_at}
use Rattle.packet.specs.Lacking.{Lacking, CutOff, PassedOn}
use Rattle.walker.specs.declared.Stop.{Stop}
use Rattle.walker.specs.declared.Walker.{Walker}
use Rattle.walker.specs.Walk.{Stepped}
use Rattle.map_answer.specs.declared.Track.{Track}
use Rattle.map_records.specs.Fill.{Filled}
use Rattle.map_name.specs.Name.{opened_of}
use Rattle.map_name.specs.declared.OfTwo.{OfTwo}
use Rattle.map.specs.declared.MapSays.{MapSays}
use Rattle.stream.specs.Lacking.{CheckRefuses, SeekRefuses, StreamLacking, StreamCutOff, StreamOpens}
use Rattle.book_builder.specs.Lacking.{BuildRefuses}
use Rattle.paper_readings.specs.Calls.{Headers, OfType, Walks, ReadsMap, ReadsTrack, Checks, Seeks, Looks, Tables, Positions, Preambles, Places, PlacesOfTwo, Parameters, BuildsInto}

-- a reader of the packet at a position: what the header is refused with, it is refused with, and its 5 is the header's
abbrev pub Passes : {A : Type 0} → (A → Type 0) → (Refusal → A) → List ℕ → ℕ → Type 0
Passes {A = A} gives refused s at = ((r : Refusal) → header_at s at ≡ Err r → (x : A) → gives x → x ≡ refused r) × ((r : Refusal) → gives (refused r) → PassedOn s at r)

pub record BytesLacking : Type 0 where
  -- a packet's header: what the bytes lacking are, and that a packet of which some lack is refused with them
  pub header : (s : List ℕ) (at : ℕ) (r : Refusal) → Headers s at (Err r) → Lacking s at r
  pub cut : CutOff
  -- a packet of an asked type, a step of a walker and a walk of n steps
  pub of_type : (s : List ℕ) (at type : ℕ) → Passes (OfType s at type) Err s at
  pub step : (w : Walker) (r : Refusal) (v : Walker) → Stepped w (Err r) v → Lacking w.stream.now w.at r
  pub walk : (s : List ℕ) (at n : ℕ) (x : Stop) → Walks s at n x → (x.answer ≡ header_at s x.at) × ((r : Refusal) → x.answer ≡ Err r → Lacking s x.at r)
  -- a map, the record of a track, all records into lent ones, and the place of a name
  pub map : (s : List ℕ) (at : ℕ) → Passes (ReadsMap s at) Err s at
  pub track : (s : List ℕ) (at k : ℕ) → Passes (ReadsTrack s at k) Err s at
  pub fill : (ys : List Track) (s : List ℕ) (at : ℕ) (zs : List Track) → Passes (λ (x : Result MapSays Refusal). Filled ys s at x zs) Err s at
  pub place : (s : List ℕ) (id : ℕ) → Passes (Places s id) Err s 0
  -- of two maps it is that of the map refused, the opening one first: `opened_of` is a map's refusal, or its length
  pub opened : (s : List ℕ) → Passes (λ (x : Result ℕ Refusal). x ≡ opened_of s) Err s 0
  pub opening : (a b : List ℕ) (id : ℕ) (r : Refusal) → opened_of a ≡ Err r → (x : Result OfTwo Refusal) → PlacesOfTwo a b id x → x ≡ Err r
  pub closing : (a b : List ℕ) (id n : ℕ) → opened_of a ≡ Ok n → (r : Refusal) → opened_of b ≡ Err r → (x : Result OfTwo Refusal) → PlacesOfTwo a b id x → x ≡ Err r
  pub place_of_two_lem : (a b : List ℕ) (id : ℕ) (r : Refusal) → PlacesOfTwo a b id (Err r) → PassedOn a 0 r ⊎ PassedOn b 0 r
  -- the field locator table, a position by it, and the media preamble
  pub table : (s : List ℕ) (at : ℕ) → Passes (Tables s at) Err s at
  pub position : (s : List ℕ) (at d : ℕ) → Passes (Positions s at d) Err s at
  pub preamble : (s : List ℕ) (at : ℕ) → Passes (Preambles s at) Err s at
  -- a whole stream: its torn packet's, to check, seek and builder alike
  pub check : (s : List ℕ) (r : Refusal) → Checks s (Err r) → StreamLacking CheckRefuses s r
  pub check_cut : StreamCutOff CheckRefuses
  pub check_opens : StreamOpens CheckRefuses
  pub seek : (s : List ℕ) (track field : ℕ) (r : Refusal) → Seeks s track field (Err r) → StreamLacking (SeekRefuses track field) s r
  pub seek_cut : (track field : ℕ) → StreamCutOff (SeekRefuses track field)
  pub seek_opens : (track field : ℕ) → StreamOpens (SeekRefuses track field)
  pub build : (l s : List ℕ) (r : Refusal) (o : List ℕ) → BuildsInto l s (Err r) o → StreamLacking (BuildRefuses l) s r
  pub build_cut : (l : List ℕ) → StreamCutOff (BuildRefuses l)
  pub build_opens : (l : List ℕ) → StreamOpens (BuildRefuses l)
  -- a look-up and an auxiliary text have no packet that could be torn
  pub lookup : (s : List ℕ) (track field : ℕ) (r : Refusal) → Looks s track field (Err r) → (number r ≡ 5 → ⊥) × (r.lacking ≡ 0)
  pub parameters : (s : List ℕ) (r : Refusal) → Parameters s (Err r) → (number r ≡ 5 → ⊥) × (r.lacking ≡ 0)
