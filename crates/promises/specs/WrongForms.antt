-- Demand 2, refusal 29 (02, §12): a map with an auxiliary item of the wrong form is refused, by whatever judges it, and none is written. Proved in proofs/WrongForms.antt.
-- `WrongForm` says of a map packet's bytes when 29 is given, and where; `WriterForm` says it of what the writer is given; `StreamWrongForm` of a stream. A seek and a builder are refused with what the check is refused with (`SeekAndBook`).
use Rattle.std.specs.Prelude.{ℕ, ◌+◌, ◌≡◌, true, false, List, Result, Ok, Err, Some, None}
use Rattle.plate.specs.Plate.{number}
use Rattle.plate.specs.Part.{part}
use Rattle.plate.specs.declared.Refusal.{Refusal}
use Rattle.packet.specs.Packet.{type_map, packet_at}
use Rattle.packet.specs.declared.Packet.{Packet}
use Rattle.map_items.specs.Items.{Item}
use Rattle.map_items.specs.Judge.{form_of, is_known}
use Rattle.map_items.specs.declared.Section.TheVariants as section
use Rattle.map_answer.specs.declared.Track.{Track}
use Rattle.map_tracks.specs.Tracks.{Description, End, track_over}
use Rattle.map_tracks.specs.WrongForm.{Judged29}
use Rattle.map.specs.Map.{map_verdict, map_at}
use Rattle.map.specs.WrongForm.{WrongForm}
use Rattle.map.specs.declared.MapSays.{MapSays}
use Rattle.map_records.specs.Fill.{Filled}
use Rattle.map_name.specs.declared.OfTwo.{OfTwo}
use Rattle.map_items.specs.declared.Part.{Part}
use Rattle.plate.specs.declared.Fault.TheVariants as fault
use Rattle.map_newer.specs.Strike.{kept, track_stays, set_at}
use Rattle.map_newer.specs.WrongForm.{StaysWrong}
use Rattle.stream.specs.WrongForm.{CheckNumber, StreamWrongForm, MapThere, FirstMap}
use Rattle.packet_writer.specs.Write.{refused}
use Rattle.map_given.specs.Given.{tracks_given}
use Rattle.map_given.specs.Faults.{fault_of, any_wrong}
use Rattle.map_writer.specs.WrongForm.{WriterForm}
use Rattle.paper_readings.specs.Calls.{ReadsMap, ReadsTrack, Places, PlacesOfTwo, Checks, WritesMap}
use Rattle.paper_readings.specs.Table.{Agree}
use Rattle.paper_readings.specs.Forms.{forms, given}
use Rattle.plate.specs.declared.Fault.{Fault}

-- a whole map packet stands at a position, and r is what its content is refused with
pub record MapRefused (s : List ℕ) (at : ℕ) (r : Refusal) : Type 0 where
  pub whole : Packet
  pub there : packet_at s at type_map ≡ Ok whole
  pub verdict : map_verdict (part at (at + whole.len) s) ≡ Err r

-- the check of a stream is refused with r
abbrev pub CheckGives : List ℕ → Refusal → Type 0
CheckGives s r = (x : Result ℕ Refusal) → Checks s x → x ≡ Err r

pub record WrongForms : Type 0 where
  -- of tracks, and of one map packet: 29 exactly at the first wrong form; where there is none the verdict on the tracks is what it was
  pub tracks : (ids : List ℕ) (p : ℕ) (ds : List Description) (e : End) → Judged29 ids p ds e
  pub map : (p : List ℕ) → WrongForm p
  -- the readings of the request, and its place in the order: of maps, and of what the writer is given
  pub read_so : Agree forms
  pub given_so : Agree given
  -- what a map is refused with, its readers are, the place counted from the packet's start: the reader, a track by its number, before 16, all records, before 13, and a name's place; of two maps the opening one's refusal goes first, then the closing one's
  pub read : (s : List ℕ) (at : ℕ) (r : Refusal) → MapRefused s at r → (x : Result MapSays Refusal) → ReadsMap s at x → x ≡ Err r
  pub track : (s : List ℕ) (at k : ℕ) (r : Refusal) → MapRefused s at r → (x : Result Track Refusal) → ReadsTrack s at k x → x ≡ Err r
  pub fill : (s : List ℕ) (at : ℕ) (r : Refusal) → MapRefused s at r → (ys zs : List Track) (x : Result MapSays Refusal) → Filled ys s at x zs → (x ≡ Err r) × (zs ≡ ys)
  pub name : (s : List ℕ) (id : ℕ) (r : Refusal) → MapRefused s 0 r → (x : Result Part Refusal) → Places s id x → x ≡ Err r
  pub opening : (a b : List ℕ) (id : ℕ) (r : Refusal) → MapRefused a 0 r → (x : Result OfTwo Refusal) → PlacesOfTwo a b id x → x ≡ Err r
  pub closing : (a b : List ℕ) (id : ℕ) (m : MapSays) → map_at a 0 ≡ Ok m → (r : Refusal) → MapRefused b 0 r → (x : Result OfTwo Refusal) → PlacesOfTwo a b id x → x ≡ Err r
  -- and the map reader's own 29 is no other's: it is that of the map which stands there
  pub read_only : (s : List ℕ) (at : ℕ) (r : Refusal) → ReadsMap s at (Err r) → number r ≡ 29 → MapRefused s at r
  -- the check: a 29 is that of the map at which the packets stop, its offset added
  pub check : (s : List ℕ) (r : Refusal) → Checks s (Err r) → number r ≡ 29 → StreamWrongForm s r
  -- and what a map is refused with the stream is, its offset added and whatever follows, where the bytes before it have no fault but that they run out, and where it opens the stream
  pub check_there : MapThere CheckGives
  pub check_first : FirstMap CheckGives
  -- a check's refusals are 1 to 5, 7 to 12, 14, 15, 17 to 22 and 29
  pub check_numbers : (s : List ℕ) (r : Refusal) → Checks s (Err r) → CheckNumber (number r)
  -- the writer, by its definition; and through its contract: 24, 11 or 10 first, then 29, whatever room there is
  pub writer : WriterForm
  pub writes_other : (out : List ℕ) (at : ℕ) (text ms ts : List ℕ) (f : Fault) → fault_of text ms ts ≡ Some f → (x : Result ℕ Refusal) (o : List ℕ) → WritesMap out at text ms ts x o → (x ≡ refused f) × (o ≡ out)
  pub writes_none : (out : List ℕ) (at : ℕ) (text ms ts : List ℕ) → fault_of text ms ts ≡ None → any_wrong (tracks_given ts) ≡ true → (x : Result ℕ Refusal) (o : List ℕ) → WritesMap out at text ms ts x o → (x ≡ refused fault.WrongForm) × (o ≡ out)
  -- struck or set in, what the reader doesn't know neither brings the wrong form to a track nor takes it away; so a map that is refused with 29 stays refused with 29, as one that is accepted stays accepted (`NewerMaps`)
  pub struck : (type_byte : ℕ) (is : List Item) → (track_over type_byte (kept track_stays is) 0 ≡ (Ok tt) → track_over type_byte is 0 ≡ (Ok tt)) × (track_over type_byte is 0 ≡ (Ok tt) → track_over type_byte (kept track_stays is) 0 ≡ (Ok tt))
  pub set_in_lem : (type_byte k : ℕ) (i : Item) (is : List Item) → is_known (form_of section.Track i.tag) ≡ false
      → (track_over type_byte (set_at k i is) 0 ≡ (Ok tt) → track_over type_byte is 0 ≡ (Ok tt)) × (track_over type_byte is 0 ≡ (Ok tt) → track_over type_byte (set_at k i is) 0 ≡ (Ok tt))
  pub stays : StaysWrong
