-- Reading what was written, through the readers' contracts as the checker reads them: whatever `map::read`, `map::track` (`Reads.Post`) and `map_records::fill` (`Filled`) give. Proved in proofs/Readers.antt.
use Rattle.std.specs.Prelude.{ℕ, zero, suc, ◌/◌, ◌≤◌, ◌<◌, ◌≡◌, List, [], ◌∷◌, map, length, take, drop, Result, Ok, Err}
use contract.Lifetimes.{Lfts}
use borrow.Fn.Kinds.{ended_of, Dens}
use denote.Triple.Clauses.{AtExit}
use Rattle.plate.specs.Plate.{refusal}
use Rattle.map_answer.specs.declared.Track.{Track}
use Rattle.map.specs.declared.MapSays.{MapSays}
use Rattle.plate.specs.declared.Refusal.{Refusal}
use Rattle.plate.specs.declared.Fault.TheVariants as fault
use Rattle.map.specs.View.{MapView, material_view_in, track_view_in}
use Rattle.map.proofs.read.Kinds as read-kinds
use Rattle.map.proofs.read.Reads as read-reads
use Rattle.map.proofs.track.Kinds as track-kinds
use Rattle.map.proofs.track.Reads as track-reads
use Rattle.map_records.specs.Fill.{Filled}
use Rattle.map_writer.specs.ViewGiven.{view_given}
use Rattle.map_writer.specs.Meaning.{codes_given, codes_read}

-- x is an outcome that the contract of `read` allows on these bytes, at this place
pub record ReadGives (now : List ℕ) (at : ℕ) (x : Result MapSays Refusal) : Type 0 where
  pub lifetimes : Lfts 1
  pub arguments : Dens lifetimes read-kinds.ps
  pub exit : AtExit (ended_of 1 read-kinds.ps read-kinds.r) lifetimes
  pub bytes : arguments.0.now ≡ now
  pub place : arguments.1.0 ≡ at
  pub post : read-reads.Post lifetimes arguments x exit

-- y is an outcome that the contract of `track` allows there, for the track of number k
pub record TrackGives (now : List ℕ) (at k : ℕ) (y : Result Track Refusal) : Type 0 where
  pub lifetimes : Lfts 1
  pub arguments : Dens lifetimes track-kinds.ps
  pub exit : AtExit (ended_of 1 track-kinds.ps track-kinds.r) lifetimes
  pub bytes : arguments.0.now ≡ now
  pub place : arguments.1.0 ≡ at
  pub number : arguments.1.1.0 ≡ k
  pub post : track-reads.Post lifetimes arguments y exit

-- the answer says this count and this material, its places being in the packet p
abbrev pub Says : List ℕ → MapView → Result MapSays Refusal → Type 0
Says p a (Ok m) = (m.count ≡ a.count) × (material_view_in p m.material ≡ a.material)
Says p a (Err r) = ⊥

-- the answer is the k-th of some, as f reads a record; 16 past the last
abbrev pub KthIs : {A : Type 0} → (Track → A) → List A → ℕ → Result Track Refusal → Type 0
KthIs f [] k y = y ≡ Err (refusal fault.NotThere 0)
KthIs f (a ∷ rest) zero (Ok t) = f t ≡ a
KthIs f (a ∷ rest) zero (Err r) = ⊥
KthIs f (a ∷ rest) (suc k) y = KthIs f rest k y

-- the readers at a place, where a packet of n bytes stands, show what was given; a code means the number that was given
pub record Readers (now : List ℕ) (at n : ℕ) (text ms ts : List ℕ) : Type 0 where
  pub read : (x : Result MapSays Refusal) → ReadGives now at x → Says (take n (drop at now)) (view_given text ms ts) x
  pub track : (k : ℕ) (y : Result Track Refusal) → TrackGives now at k y → KthIs (track_view_in (take n (drop at now))) (view_given text ms ts).tracks k y
  pub codes : (k : ℕ) (y : Result Track Refusal) → TrackGives now at k y → KthIs codes_read (codes_given (length ts / 23) ts 0) k y
  -- into lent records ys, which are then zs: the first are the tracks', the others stay; 13 and no record changed where fewer are lent
  pub fill : (ys zs : List Track) (r : Result MapSays Refusal) → Filled ys now at r zs → length ts / 23 ≤ length ys
      → Says (take n (drop at now)) (view_given text ms ts) r
      × (map (track_view_in (take n (drop at now))) (take (length ts / 23) zs) ≡ (view_given text ms ts).tracks)
      × (map codes_read (take (length ts / 23) zs) ≡ codes_given (length ts / 23) ts 0)
      × (drop (length ts / 23) zs ≡ drop (length ts / 23) ys)
  pub few : (ys zs : List Track) (r : Result MapSays Refusal) → Filled ys now at r zs → length ys < length ts / 23 → (r ≡ Err (refusal fault.Room 0)) × (zs ≡ ys)
