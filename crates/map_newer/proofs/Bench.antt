-- The bench map M of 01 under demand 3: it is accepted, with `7E 01 55` set in it is 01's other map, whose remainder it is, and another map answers otherwise.
use Prim.Native.Nat.{ℕ, ◌<◌}
use mathlib.Core.Path.{◌≡◌, refl, sym, ◌∙◌, ap}
use mathlib.Core.Bool.{Bool, true, false}
use mathlib.Core.List.{List, [], ◌∷◌, ◌++◌}
use lib.ListN.{length, get_or}
use native.Mathlib.Omega.{arith}
use lib.Dec.{ltb}
use borrow.Author.Tests.{ltb-true}
use Rattle.std.specs.Prelude.{Some, None, Result, Ok, Err}
use Rattle.plate.specs.Choice.{pick}
use Rattle.number.specs.Number.{be, be_bytes}
use Rattle.number.proofs.Bytes.{AllBytes, by_number}
use Rattle.media_type.specs.MediaType.{known_type, mpeg_type, wrong_form}
use Rattle.text.specs.Text.{text_ok}
use Rattle.packet.specs.Packet.{header_at, sized_at, packet_at}
use Rattle.map_items.specs.Items as items
use Rattle.map_items.specs.Items.{Item}
use Rattle.map_items.specs.Judge as judge
use Rattle.map_items.specs.Find as find
use Rattle.map_aspect.specs.Aspect.{aspect_of}
use Rattle.map_aspect.specs.declared.Aspect.TheVariants as aspect
use Rattle.map_answer.specs.Answer as answer
use Rattle.map_answer.specs.declared.Code.{Code}
use Rattle.map_answer.specs.declared.Code.TheVariants as code
use Rattle.map_tracks.specs.Tracks as tracks
use Rattle.map.specs.Map as map
use Rattle.map.specs.Encode as encode
use Rattle.map.specs.View as shown
use Rattle.map.specs.View.{nothing, bytes, MapView, view_in}
use Rattle.map.specs.Parts as said
use Rattle.map.specs.declared.MapSays.{MapSays}
use Rattle.map.specs.Map.{map_at}
use Rattle.map.proofs.Samples.{headed, up_to_rate, rate_item, M, newer, reserved, saying}
use Rattle.map_answer.specs.declared.Track.{Track}
use Rattle.plate.specs.Plate.{refusal}
use Rattle.map_newer.specs.Known as known
use Rattle.map_newer.specs.Known.{Clean, Leaves, Same, Kept}
use Rattle.map_newer.specs.Names.{PlaceGives, TwoPartGives, NameOutcomeView, named, view_of_name_outcome, NameAnswers}
use Rattle.map_newer.specs.Strike as strike
use Rattle.map_newer.specs.Strike.{in_track, set_in}
use Rattle.map_newer.specs.Demand.{Accepted, Alike, There, Unknown, Room, Padded}
use Rattle.map_items.proofs.Anywhere.{never}
use Rattle.plate.specs.declared.Refusal.{Refusal}
use Rattle.map_items.specs.declared.Part.{Part}
use Rattle.plate.specs.declared.Fault.TheVariants as fault
use Rattle.map_newer.specs.Functions.{ReadGives, TrackGives, MapOutcomeView, says, refused, view_of_map_outcome, TrackOutcomeView, holds, view_of_track_outcome, kth_view, of_id, FillGives, Fills, Answers}
use Rattle.map_newer.proofs.Demand.{demand}
use Rattle.map_newer.proofs.Functions.{answers}
use Rattle.map_newer.proofs.Names.{names}

-- the remainder of M with rate 9: M without a rate, and three pad bytes
abbrev pub unrated : List ℕ
unrated = headed 0xBC 0x28 ++ up_to_rate 0x09 0x05 ++ (0 ∷ 0 ∷ 0 ∷ [])

-- numbers that are bytes, by a computed test
bytes_are : List ℕ → Bool
bytes_are [] = true
bytes_are (b ∷ s) = pick (ltb b 256) (bytes_are s) false

bytes_are_lem : (s : List ℕ) → bytes_are s ≡ true → AllBytes s
unfolding bytes_are
bytes_are_lem [] e = tt
bytes_are_lem (b ∷ s) e = go (ltb b 256) refl e (bytes_are_lem s)
  where
    go : (t : Bool) → ltb b 256 ≡ t → pick t (bytes_are s) false ≡ true → (bytes_are s ≡ true → AllBytes s) → (b < 256) × AllBytes s
    go true q e rest = (ltb-true _ _ q, rest e)
    go false q e rest = never (sym e)

-- first field 0 and one listed track, in all of them; the shortest map says less: no track, and no first field
abbrev pub shortest : List ℕ
shortest = headed 0xBC 0x18 ++ (0xE0 ∷ 0xFF ∷ 0x00 ∷ 0x00 ∷ 0x00 ∷ 0x00 ∷ 0x00 ∷ 0x00 ∷ [])

-- M with four zeros more, and M with another pad byte
abbrev pub longer : List ℕ
longer = headed 0xBC 0x30 ++ up_to_rate 0x0F 0x0B ++ rate_item 0xFF 0xFE ++ (0 ∷ 0 ∷ 0 ∷ 0 ∷ 0 ∷ [])

abbrev pub spotted : List ℕ
spotted = headed 0xBC 0x2C ++ up_to_rate 0x0F 0x0B ++ rate_item 0xFF 0xFE ++ (1 ∷ [])

seen : (s : List ℕ) (m : MapSays) → bytes_are s ≡ true → be s 6 4 ≡ length s → map_at s 0 ≡ Ok m → Accepted s
seen s m b l e = record { bytes = λ i. (by_number s (bytes_are_lem s b) i).fits; alone = l; says = m; read = e }

all_accepted : Accepted M × Accepted newer × Accepted reserved × Accepted shortest × Accepted longer × Accepted spotted
unfolding bytes_are be header_at sized_at packet_at known_type mpeg_type wrong_form text_ok items.split_items items.section_of items.items_size judge.form_of judge.is_known judge.fault_of judge.counts_as judge.has judge.judge_items judge.verdict_of find.find answer.is_null answer.value_of answer.material_of tracks.split_tracks tracks.tracks_of tracks.track_over tracks.track_verdict tracks.end_verdict tracks.judge_tracks tracks.tracks_verdict tracks.is_listed tracks.listed map.after_material map.layout_of map.both_verdict map.sections_verdict map.map_verdict map.material_says map.listed_in map.answer_of map.map_at
all_accepted = (
  seen M (saying 1 (Some 0)) refl refl refl,
  seen newer (saying 1 (Some 0)) refl refl refl,
  seen reserved (saying 1 (Some 0)) refl refl refl,
  seen shortest (saying 0 None) refl refl refl,
  seen longer (saying 1 (Some 0)) refl refl refl,
  seen spotted (saying 1 (Some 0)) refl refl refl,
)

pub M-accepted : Accepted M
M-accepted = all_accepted.0

pub newer_accepted : Accepted newer
newer_accepted = all_accepted.1

pub reserved_accepted : Accepted reserved
reserved_accepted = all_accepted.2

pub shortest_accepted : Accepted shortest
shortest_accepted = all_accepted.3

pub longer_accepted : Accepted longer
longer_accepted = all_accepted.4

pub spotted_accepted : Accepted spotted
spotted_accepted = all_accepted.5

-- `7E 01 55` set in after the two items of the first track gives 01's map
abbrev pub item : Item
item = record { tag = 0x7E; value = 0x55 ∷ [] }

pub item_set_in : set_in (in_track 0 2) item M ≡ newer
unfolding strike.set_in strike.set_in_parts strike.set_in_track strike.set_at said.parts_of said.opened encode.encode encode.packet_of encode.front encode.section_bytes encode.packet_length encode.padding encode.described be_bytes be items.split_items items.section_of items.items_bytes tracks.split_tracks tracks.tracks_of tracks.descriptions_bytes map.layout_of map.after_material
item_set_in = refl

item_there : There (in_track 0 2) M
unfolding said.parts_of said.opened be items.split_items items.section_of tracks.split_tracks tracks.tracks_of map.layout_of map.after_material
item_there = omega arith

item_unknown : Unknown (in_track 0 2) item
unfolding judge.form_of judge.is_known bytes_are
item_unknown = record { unknown = refl; tag = omega arith; long = omega arith; bytes = λ i. (by_number (0x55 ∷ []) (bytes_are_lem (0x55 ∷ []) refl) i).fits }

item_room : Room (in_track 0 2) item M
unfolding be map.layout_of map.after_material
item_room = omega arith

-- as the fourth theorem has it
pub newer_alike : Accepted newer × Alike M newer
newer_alike = rw item_set_in at (demand.set_in_lem M M-accepted (in_track 0 2) item item_there item_unknown item_room)

-- and M is its remainder; the remainder of M with rate 9 has no rate
pub newer_struck : strike.strike newer ≡ M
unfolding strike.strike strike.struck strike.struck_track strike.kept strike.material_stays strike.track_stays strike.is_reserved said.listed_of said.parts_of said.opened encode.encode encode.packet_of encode.front encode.section_bytes encode.packet_length encode.padding encode.described be_bytes be items.split_items items.section_of items.items_bytes judge.form_of judge.is_known answer.value_of answer.code_of answer.allowed judge.has tracks.split_tracks tracks.tracks_of tracks.descriptions_bytes tracks.is_listed known_type map.layout_of map.after_material
newer_struck = refl

pub reserved_struck : strike.strike reserved ≡ unrated
unfolding strike.strike strike.struck strike.struck_track strike.kept strike.material_stays strike.track_stays strike.is_reserved said.listed_of said.parts_of said.opened encode.encode encode.packet_of encode.front encode.section_bytes encode.packet_length encode.padding encode.described be_bytes be items.split_items items.section_of items.items_bytes judge.form_of judge.is_known answer.value_of answer.code_of answer.allowed judge.has tracks.split_tracks tracks.tracks_of tracks.descriptions_bytes tracks.is_listed known_type map.layout_of map.after_material
reserved_struck = refl

-- both have the parts of M, but not its padding
pub padding_ignored : (said.parts_of longer ≡ said.parts_of M) × (said.parts_of spotted ≡ said.parts_of M)
unfolding said.parts_of said.opened be items.split_items items.section_of tracks.split_tracks tracks.tracks_of map.layout_of map.after_material
padding_ignored = (refl, refl)

pub M-padded : Padded M (map.layout_of M)
M-padded = rw newer_struck at (demand.tight newer newer_accepted)

pub longer_unpadded : Padded longer (map.layout_of longer) → ⊥
unfolding be map.layout_of map.after_material
longer_unpadded h = let l = h.0 in omega arith

pub spotted_unpadded : Padded spotted (map.layout_of spotted) → ⊥
unfolding be map.layout_of map.after_material
spotted_unpadded h = let e : ◌≡◌ {A = List ℕ} (1 ∷ []) (0 ∷ []) = h.1 in let z : ◌≡◌ {A = ℕ} 1 0 = ap (λ (s : List ℕ). get_or s 0 0) e in omega arith

-- the remainder M is clean and has all that is known of the map, which itself is not clean, nor is M with rate 9: striking nothing is shut out
pub M-clean : Clean (said.parts_of M)
M-clean = rw newer_struck at (demand.clean newer newer_accepted)

pub newer_kept : Kept (said.parts_of newer) (said.parts_of M)
newer_kept = rw newer_struck at (demand.kept newer newer_accepted)

pub newer_unclean : Clean (said.parts_of newer) → ⊥
unfolding known.known_item known.meaningful said.parts_of said.opened be items.split_items items.section_of judge.has tracks.split_tracks tracks.tracks_of map.layout_of map.after_material
newer_unclean c = never (sym c.items.0.1.1.0)

pub reserved_unclean : Clean (said.parts_of reserved) → ⊥
unfolding known.known_item known.meaningful said.parts_of said.opened be items.split_items items.section_of judge.has tracks.split_tracks tracks.tracks_of map.layout_of map.after_material
reserved_unclean c = never (sym c.items.0.1.0)

-- and so is striking what is known: the shortest map is clean, and lacks the first field of M
not_left : (i : Item) (is : List Item) → known.known_material i ≡ true → Leaves known.known_material Same (i ∷ is) [] → ⊥
not_left i is e (Leaves.goes q rest) = never (sym e ∙ q)

pub shortest_clean : Clean (said.parts_of shortest)
unfolding said.parts_of said.opened be items.split_items items.section_of tracks.split_tracks tracks.tracks_of map.layout_of map.after_material
shortest_clean = record { material = tt; tracks = tt; items = tt }

pub shortest_not_kept : Kept (said.parts_of M) (said.parts_of shortest) → ⊥
unfolding known.known_material said.parts_of said.opened be items.split_items items.section_of judge.has tracks.split_tracks tracks.tracks_of map.layout_of map.after_material
shortest_not_kept k = not_left (record { tag = 0x41; value = 0 ∷ 0 ∷ 0 ∷ 0 ∷ [] }) [] refl k.material

-- what M shows: first field 0, track 1, type 10, name A1, rate not available
abbrev pub M-view : MapView
M-view =
    record {
      count = 1;
      material =
          record { name = nothing; first = Some 0; last = None; mark_in = None; mark_out = None; size = None };
      tracks =
          record {
            id = 1;
            media_type = 10;
            rate = code.NotAvailable;
            lines = code.Absent;
            fields = code.Absent;
            version = None;
            name = bytes 3 (0x41 ∷ 0x31 ∷ 0x00 ∷ []);
            aux = nothing;
            mpeg = nothing;
            aspect = aspect.Unknown;
          }
          ∷ [];
    }

pub M-viewed : view_in M ≡ M-view
unfolding be known_type mpeg_type aspect_of items.split_items items.section_of find.find answer.value_of answer.allowed answer.code_of answer.is_null answer.material_of answer.track_of judge.has tracks.split_tracks tracks.tracks_of tracks.is_listed tracks.listed tracks.record_of map.after_material map.layout_of map.material_says map.listed_in shown.material_view_in shown.track_view_in shown.view_in
M-viewed = refl

-- so the functions give that on M, and on M with `7E 01 55`
pub M-answers : Answers M M-view
M-answers = rw (← M-viewed) (answers M M-accepted)

pub newer_answers : Answers newer M-view
newer_answers = rw (← M-viewed, newer_alike.1) (answers newer newer_accepted)

-- with no record lent `fill` refuses M with 13; with one or more it leaves the track's record first
pub M-too-few : (zs : List Track) (r : Result MapSays Refusal) → FillGives M [] r zs → r ≡ Err (refusal fault.Room 0)
M-too-few zs r g = (M-answers.too_few [] zs r g (omega arith)).0

pub M-filled : (y : Track) (ys zs : List Track) (r : Result MapSays Refusal) → FillGives M (y ∷ ys) r zs → Fills M M-view (y ∷ ys) r zs
M-filled y ys zs r g = M-answers.fill (y ∷ ys) zs r g (omega arith)

-- the name of track 1 is A1, without its 00, on M and with `7E 01 55`; of track 2 there is none: 16
pub M-names : NameAnswers M M-view × NameAnswers newer M-view
M-names = (rw (← M-viewed) (names.one_answer M M-accepted).0, rw (← M-viewed, newer_alike.1) (names.one_answer newer newer_accepted).0)

pub M-name : (x : Result Part Refusal) → PlaceGives M 1 x → view_of_name_outcome M x ≡ named (0x41 ∷ 0x31 ∷ [])
unfolding of_id
M-name x g = M-names.0.place 1 x g

pub newer_name : (x : Result Part Refusal) → PlaceGives newer 1 x → view_of_name_outcome newer x ≡ named (0x41 ∷ 0x31 ∷ [])
unfolding of_id
newer_name x g = M-names.1.place 1 x g

pub M-no-name : (x : Result Part Refusal) → PlaceGives M 2 x → view_of_name_outcome M x ≡ NameOutcomeView.refused (refusal fault.NotThere 0)
unfolding of_id
M-no-name x g = M-names.0.place 2 x g

-- of two maps with `7E 01 55`: the part that is handed out is A1
pub newer_two_part : (v : List ℕ) → TwoPartGives newer newer 1 v → v ≡ 0x41 ∷ 0x31 ∷ []
unfolding of_id
newer_two_part v g = rw M-viewed at (names.part_of_two M M newer newer newer_accepted newer_accepted newer_alike.1 newer_alike.1 1 v g)

shortest_count : (view_in shortest).count ≡ 0
unfolding be known_type items.split_items items.section_of find.find answer.value_of answer.allowed answer.code_of answer.is_null answer.material_of answer.track_of judge.has tracks.split_tracks tracks.tracks_of tracks.is_listed tracks.listed tracks.record_of map.after_material map.layout_of map.material_says map.listed_in shown.material_view_in shown.track_view_in shown.view_in
shortest_count = refl

-- so no reader that refuses M, and none that gives one outcome on all maps, has the contract of `read`
seen_count : MapOutcomeView → ℕ
seen_count (says n m) = n
seen_count (refused r) = 2

one_count : (m : List ℕ) (x : Result MapSays Refusal) → Accepted m → ReadGives m x → seen_count (view_of_map_outcome m x) ≡ (view_in m).count
unfolding seen_count
one_count m x h g = ap seen_count ((answers m h).read x g)

pub no_refusal : (r : Refusal) → ReadGives M (Err r) → ⊥
unfolding seen_count
no_refusal r g = let e = one_count M (Err r) M-accepted g ∙ ap (λ (s : MapView). s.count) M-viewed in omega arith

pub no_constant : (x : Result MapSays Refusal) → ReadGives M x → ReadGives shortest x → ⊥
unfolding seen_count
no_constant (Ok a) g k =
    let e = one_count M (Ok a) M-accepted g ∙ ap (λ (s : MapView). s.count) M-viewed in
    let f = one_count shortest (Ok a) shortest_accepted k ∙ shortest_count in
    omega arith
no_constant (Err r) g k = no_refusal r g

-- M and M with rate 9 do not answer alike: the rate is not available, or absent
rate_of : TrackOutcomeView → Code
rate_of (holds t) = t.rate
rate_of (TrackOutcomeView.refused r) = code.Is 0

M-rate : rate_of (kth_view 0 (view_in M).tracks) ≡ code.NotAvailable
unfolding rate_of kth_view be known_type items.split_items items.section_of find.find answer.value_of answer.allowed answer.code_of answer.is_null answer.material_of answer.track_of judge.has tracks.split_tracks tracks.tracks_of tracks.is_listed tracks.listed tracks.record_of map.after_material map.layout_of map.material_says map.listed_in shown.material_view_in shown.track_view_in shown.view_in
M-rate = refl

reserved_rate : rate_of (kth_view 0 (view_in reserved).tracks) ≡ code.Absent
unfolding rate_of kth_view be known_type items.split_items items.section_of find.find answer.value_of answer.allowed answer.code_of answer.is_null answer.material_of answer.track_of judge.has tracks.split_tracks tracks.tracks_of tracks.is_listed tracks.listed tracks.record_of map.after_material map.layout_of map.material_says map.listed_in shown.material_view_in shown.track_view_in shown.view_in
reserved_rate = refl

other_rate : code.NotAvailable ≡ code.Absent → ⊥
other_rate e = let z : ◌≡◌ {A = ℕ} 0 1 = cc in omega arith

pub unlike : Alike M reserved → ⊥
unlike e = other_rate (sym M-rate ∙ ap (λ (s : MapView). rate_of (kth_view 0 s.tracks)) e ∙ reserved_rate)

-- so no reader that gives one record on all maps has the contract of `track`
pub no_constant_track : (y : Result Track Refusal) → TrackGives M 0 y → TrackGives reserved 0 y → ⊥
unfolding rate_of shown.track_view_in
no_constant_track y g k =
    other_rate (sym M-rate ∙ sym (ap rate_of ((answers M M-accepted).track 0 y g)) ∙ same y ∙ ap rate_of ((answers reserved reserved_accepted).track 0 y k) ∙ reserved_rate)
  where
    same : (y : Result Track Refusal) → rate_of (view_of_track_outcome M y) ≡ rate_of (view_of_track_outcome reserved y)
    same (Ok t) = refl
    same (Err r) = refl
