-- Demand 3 through the functions of `map`: `read`, `track`, `id_of` and `types_of`, over their contracts as the checker reads them (`Reads.Post`), and through `map_records::fill`. Proved in proofs/Functions.antt.
use Rattle.std.specs.Prelude.{ℕ, zero, suc, ◌<◌, ◌≤◌, ◌≡◌, List, [], ◌∷◌, ◌++◌, map as each, length, take, drop, set, replicate, eqb, Option, Some, None, Result, Ok, Err}
use Rattle.plate.specs.Choice.{pick}
use contract.Lifetimes.{Lfts}
use borrow.Fn.Kinds.{ended_of, Dens}
use denote.Triple.Clauses.{AtExit}
use Rattle.plate.specs.Plate.{refusal}
use Rattle.plate.specs.declared.Refusal.{Refusal}
use Rattle.field.specs.Field.{type_with}
use Rattle.map_items.specs.Items.{Item}
use Rattle.map_answer.specs.Answer.{is_progressive}
use Rattle.map_answer.specs.declared.Track.{Track}
use Rattle.map_tracks.specs.declared.Types.{Types}
use Rattle.map.specs.declared.MapSays.{MapSays}
use Rattle.plate.specs.declared.Fault.TheVariants as fault
use Rattle.map.specs.View.{MaterialView, TrackView, MapView, material_view_in, track_view_in, view_in}
use Rattle.map.proofs.read.Kinds as read-kinds
use Rattle.map.proofs.read.Reads as read-reads
use Rattle.map.proofs.track.Kinds as track-kinds
use Rattle.map.proofs.track.Reads as track-reads
use Rattle.map.proofs.id_of.Kinds as id-kinds
use Rattle.map.proofs.id_of.Reads as id-reads
use Rattle.map.proofs.types_of.Kinds as types-kinds
use Rattle.map.proofs.types_of.Reads as types-reads
use Rattle.map_records.specs.Fill.{Filled}
use Rattle.map_newer.specs.Strike.{strike, Boundary, set_in}
use Rattle.map_newer.specs.Demand.{Accepted, There, Unknown, Room}

-- x is an outcome that the contract of `read` allows where the packet m stands, wherever that is in lent bytes
pub record ReadGives (m : List ℕ) (x : Result MapSays Refusal) : Type 0 where
  pub lifetimes : Lfts 1
  pub arguments : Dens lifetimes read-kinds.ps
  pub exit : AtExit (ended_of 1 read-kinds.ps read-kinds.r) lifetimes
  pub before : List ℕ
  pub after : List ℕ
  pub bytes : arguments.0.now ≡ before ++ (m ++ after)
  pub position : arguments.1.0 ≡ length before
  pub post : read-reads.Post lifetimes arguments x exit

-- y is an outcome that the contract of `track` allows there, for the track of number k
pub record TrackGives (m : List ℕ) (k : ℕ) (y : Result Track Refusal) : Type 0 where
  pub lifetimes : Lfts 1
  pub arguments : Dens lifetimes track-kinds.ps
  pub exit : AtExit (ended_of 1 track-kinds.ps track-kinds.r) lifetimes
  pub before : List ℕ
  pub after : List ℕ
  pub bytes : arguments.0.now ≡ before ++ (m ++ after)
  pub position : arguments.1.0 ≡ length before
  pub number : arguments.1.1.0 ≡ k
  pub post : track-reads.Post lifetimes arguments y exit

-- y is an outcome that the contract of `id_of` allows on the packet's bytes, for the track of an ID
pub record IdGives (m : List ℕ) (id : ℕ) (y : Option Track) : Type 0 where
  pub lifetimes : Lfts 1
  pub arguments : Dens lifetimes id-kinds.ps
  pub exit : AtExit (ended_of 1 id-kinds.ps id-kinds.r) lifetimes
  pub bytes : arguments.0.now ≡ m
  pub track : arguments.1.0 ≡ id
  pub post : id-reads.Post lifetimes arguments y exit

-- t is an outcome that the contract of `types_of` allows there
pub record TypesGives (m : List ℕ) (t : Types) : Type 0 where
  pub lifetimes : Lfts 1
  pub arguments : Dens lifetimes types-kinds.ps
  pub exit : AtExit (ended_of 1 types-kinds.ps types-kinds.r) lifetimes
  pub bytes : arguments.0.now ≡ m
  pub post : types-reads.Post lifetimes arguments t exit

-- a call of `map_records::fill` on the lent records ys, where the packet m stands, gave r and left zs; its contract is the definition `Filled`
pub record FillGives (m : List ℕ) (ys : List Track) (r : Result MapSays Refusal) (zs : List Track) : Type 0 where
  pub before : List ℕ
  pub after : List ℕ
  pub filled : Filled ys (before ++ (m ++ after)) (length before) r zs

-- an outcome, with the bytes that its places point at for the places
pub data MapOutcomeView : Type 0 where
  says : ℕ → MaterialView → MapOutcomeView
  refused : Refusal → MapOutcomeView

abbrev pub view_of_map_outcome : List ℕ → Result MapSays Refusal → MapOutcomeView
view_of_map_outcome m (Ok a) = says a.count (material_view_in m a.material)
view_of_map_outcome m (Err r) = refused r

pub data TrackOutcomeView : Type 0 where
  holds : TrackView → TrackOutcomeView
  refused : Refusal → TrackOutcomeView

abbrev pub view_of_track_outcome : List ℕ → Result Track Refusal → TrackOutcomeView
view_of_track_outcome m (Ok t) = holds (track_view_in m t)
view_of_track_outcome m (Err r) = TrackOutcomeView.refused r

-- the k-th record, from 0; 16 where there is none
unfoldable pub kth_view : ℕ → List TrackView → TrackOutcomeView
kth_view k [] = TrackOutcomeView.refused (refusal fault.NotThere 0)
kth_view zero (t ∷ ts) = holds t
kth_view (suc k) (t ∷ ts) = kth_view k ts

-- the record of an ID, if there is one
pub data IdOutcomeView : Type 0 where
  holds : TrackView → IdOutcomeView
  nothing : IdOutcomeView

abbrev pub view_of_id_outcome : List ℕ → Option Track → IdOutcomeView
view_of_id_outcome m (Some t) = IdOutcomeView.holds (track_view_in m t)
view_of_id_outcome m None = nothing

unfoldable pub of_id : ℕ → List TrackView → IdOutcomeView
of_id id [] = nothing
of_id id (t ∷ ts) = pick (eqb t.id id) (IdOutcomeView.holds t) (of_id id ts)

-- by ID, the marked types of some records: the type, with the mark where the fields per frame are 1 (02, §2)
unfoldable pub types_in_view : List ℕ → List TrackView → List ℕ
types_in_view types [] = types
types_in_view types (t ∷ ts) = types_in_view (set types t.id (type_with (is_progressive t.fields) t.media_type)) ts

-- a call that is given room leaves the answer's records first, and those past the last as they were
pub record Fills (m : List ℕ) (answer : MapView) (ys : List Track) (r : Result MapSays Refusal) (zs : List Track) : Type 0 where
  pub answers : view_of_map_outcome m r ≡ says answer.count answer.material
  pub first : each (track_view_in m) (take answer.count zs) ≡ answer.tracks
  pub beyond : drop answer.count zs ≡ drop answer.count ys

-- whatever the functions give on m is the one answer; that they give one, and not one for all maps, is shown on M and others in proofs/Bench.antt
pub record Answers (m : List ℕ) (answer : MapView) : Type 0 where
  pub read : (x : Result MapSays Refusal) → ReadGives m x → view_of_map_outcome m x ≡ says answer.count answer.material
  pub track : (k : ℕ) (y : Result Track Refusal) → TrackGives m k y → view_of_track_outcome m y ≡ kth_view k answer.tracks
  pub by_id_lem : (id : ℕ) (y : Option Track) → IdGives m id y → view_of_id_outcome m y ≡ of_id id answer.tracks
  pub types : (t : Types) → TypesGives m t → t.media_types ≡ types_in_view (replicate 64 0) answer.tracks
  -- 13 where fewer records are lent than the answer has tracks, and every record as it was; nowhere else
  pub too_few : (ys zs : List Track) (r : Result MapSays Refusal) → FillGives m ys r zs → length ys < answer.count → (r ≡ Err (refusal fault.Room 0)) × (zs ≡ ys)
  pub fill : (ys zs : List Track) (r : Result MapSays Refusal) → FillGives m ys r zs → answer.count ≤ length ys → Fills m answer ys r zs

pub record Functions : Type 0 where
  -- on an accepted map, and on its remainder
  pub one_answer : (m : List ℕ) → Accepted m → Answers m (view_in m) × Answers (strike m) (view_in m)
  -- on the map with an unknown item set in
  pub set_in_lem : (m : List ℕ) → Accepted m → (b : Boundary) (i : Item) → There b m → Unknown b i → Room b i m → Answers (set_in b i m) (view_in m)
