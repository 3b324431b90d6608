-- Demand 3 through the functions of `map_name`: `name_place`, `name` and, of two maps, `name_place_of_two` and `name_of_two`, over their contracts as the checker reads them. Proved in proofs/Names.antt.
use Rattle.std.specs.Prelude.{ℕ, ◌-◌, ◌≡◌, List, [], ◌++◌, take, drop, Result, Ok, Err}
use contract.Lifetimes.{Lfts}
use borrow.Fn.Kinds.{ended_of, res_t, Dens}
use denote.Triple.Clauses.{AtExit}
use Rattle.plate.specs.Plate.{refusal}
use Rattle.plate.specs.declared.Refusal.{Refusal}
use Rattle.map_items.specs.Items.{Item}
use Rattle.map.specs.View.{Held, nothing, bytes, MapView, view_in}
use Rattle.map_name.specs.declared.OfTwo.{OfTwo}
use Rattle.map_name.specs.declared.OfTwo.TheVariants as two
use Rattle.map_items.specs.declared.Part.{Part}
use Rattle.plate.specs.declared.Fault.TheVariants as fault
use Rattle.map_name.proofs.name_place.Kinds as place-kinds
use Rattle.map_name.proofs.name_place.Reads as place-reads
use Rattle.map_name.proofs.name.Kinds as part-kinds
use Rattle.map_name.proofs.name.Reads as part-reads
use Rattle.map_name.proofs.name_place_of_two.Kinds as two-kinds
use Rattle.map_name.proofs.name_place_of_two.Reads as two-reads
use Rattle.map_name.proofs.name_of_two.Kinds as two-part-kinds
use Rattle.map_name.proofs.name_of_two.Reads as two-part-reads
use Rattle.map_newer.specs.Strike.{strike, Boundary, set_in}
use Rattle.map_newer.specs.Demand.{Accepted, Alike, There, Unknown, Room}
use Rattle.map_newer.specs.Functions.{IdOutcomeView, of_id}

-- x is an outcome that the contract of `name_place` allows for a track, with the packet m at the start of the lent bytes
pub record PlaceGives (m : List ℕ) (id : ℕ) (x : Result Part Refusal) : Type 0 where
  pub lifetimes : Lfts 1
  pub arguments : Dens lifetimes place-kinds.ps
  pub exit : AtExit (ended_of 1 place-kinds.ps place-kinds.r) lifetimes
  pub after : List ℕ
  pub bytes : arguments.0.now ≡ m ++ after
  pub track : arguments.1.0 ≡ id
  pub post : place-reads.Post lifetimes arguments x exit

-- v is the bytes of a part that the contract of `name` allows there
pub record PartGives (m : List ℕ) (id : ℕ) (v : List ℕ) : Type 0 where
  pub lifetimes : Lfts 1
  pub arguments : Dens lifetimes part-kinds.ps
  pub exit : AtExit (ended_of 1 part-kinds.ps part-kinds.r) lifetimes
  pub part : (res_t part-kinds.r lifetimes).Denot
  pub after : List ℕ
  pub bytes : arguments.0.now ≡ m ++ after
  pub track : arguments.1.0 ≡ id
  pub post : part-reads.Post lifetimes arguments part exit
  pub holds : v ≡ part.now

-- x is an outcome that the contract of `name_place_of_two` allows, with the opening map m and the closing map n
pub record TwoGives (m n : List ℕ) (id : ℕ) (x : Result OfTwo Refusal) : Type 0 where
  pub lifetimes : Lfts 2
  pub arguments : Dens lifetimes two-kinds.ps
  pub exit : AtExit (ended_of 2 two-kinds.ps two-kinds.r) lifetimes
  pub after_opening : List ℕ
  pub after_closing : List ℕ
  pub opening : arguments.0.now ≡ m ++ after_opening
  pub closing : arguments.1.0.now ≡ n ++ after_closing
  pub track : arguments.1.1.0 ≡ id
  pub post : two-reads.Post lifetimes arguments x exit

-- v is the bytes of a part that the contract of `name_of_two` allows there
pub record TwoPartGives (m n : List ℕ) (id : ℕ) (v : List ℕ) : Type 0 where
  pub lifetimes : Lfts 1
  pub arguments : Dens lifetimes two-part-kinds.ps
  pub exit : AtExit (ended_of 1 two-part-kinds.ps two-part-kinds.r) lifetimes
  pub part : (res_t two-part-kinds.r lifetimes).Denot
  pub after_opening : List ℕ
  pub after_closing : List ℕ
  pub opening : arguments.0.now ≡ m ++ after_opening
  pub closing : arguments.1.0.now ≡ n ++ after_closing
  pub track : arguments.1.1.0 ≡ id
  pub post : two-part-reads.Post lifetimes arguments part exit
  pub holds : v ≡ part.now

-- a name's bytes, or the refusal
pub data NameOutcomeView : Type 0 where
  named : List ℕ → NameOutcomeView
  refused : Refusal → NameOutcomeView

abbrev pub view_of_name_outcome : List ℕ → Result Part Refusal → NameOutcomeView
view_of_name_outcome m (Ok q) = named (take q.len (drop q.at m))
view_of_name_outcome m (Err r) = refused r

-- a record's name without its 00; 16 where it has none, or there is no record
abbrev pub held_name : Held → NameOutcomeView
held_name (bytes n v) = named (take (n - 1) v)
held_name nothing = refused (refusal fault.NotThere 0)

abbrev pub name_of : IdOutcomeView → NameOutcomeView
name_of (IdOutcomeView.holds t) = held_name t.name
name_of IdOutcomeView.nothing = refused (refusal fault.NotThere 0)

-- the part is empty where the name is refused
abbrev pub view_of_part : NameOutcomeView → List ℕ
view_of_part (named v) = v
view_of_part (refused r) = []

-- of two maps: in which one the name stands
pub data TwoOutcomeView : Type 0 where
  opening : List ℕ → TwoOutcomeView
  closing : List ℕ → TwoOutcomeView
  refused : Refusal → TwoOutcomeView

abbrev pub view_of_two_outcome : List ℕ → List ℕ → Result OfTwo Refusal → TwoOutcomeView
view_of_two_outcome m n (Ok (two.Opening q)) = opening (take q.len (drop q.at m))
view_of_two_outcome m n (Ok (two.Closing q)) = closing (take q.len (drop q.at n))
view_of_two_outcome m n (Err r) = TwoOutcomeView.refused r

-- the closing map's name, then the opening map's, then 16
abbrev pub two_of : NameOutcomeView → NameOutcomeView → TwoOutcomeView
two_of (named v) o = closing v
two_of (refused r) (named v) = opening v
two_of (refused r) (refused s) = TwoOutcomeView.refused (refusal fault.NotThere 0)

-- the part is empty where the name is refused
abbrev pub view_of_two_part : TwoOutcomeView → List ℕ
view_of_two_part (opening v) = v
view_of_two_part (closing v) = v
view_of_two_part (TwoOutcomeView.refused r) = []

-- whatever the functions give of a track's name on m is the name in the one answer
pub record NameAnswers (m : List ℕ) (answer : MapView) : Type 0 where
  pub place : (id : ℕ) (x : Result Part Refusal) → PlaceGives m id x → view_of_name_outcome m x ≡ name_of (of_id id answer.tracks)
  pub part : (id : ℕ) (v : List ℕ) → PartGives m id v → v ≡ view_of_part (name_of (of_id id answer.tracks))

pub record Names : Type 0 where
  -- on an accepted map, and on its remainder
  pub one_answer : (m : List ℕ) → Accepted m → NameAnswers m (view_in m) × NameAnswers (strike m) (view_in m)
  -- on the map with an unknown item set in
  pub set_in_lem : (m : List ℕ) → Accepted m → (b : Boundary) (i : Item) → There b m → Unknown b i → Room b i m → NameAnswers (set_in b i m) (view_in m)
  -- of two maps: on accepted ones that are alike with m and n, as their remainders are, and they with unknown items set in
  pub of_two : (m n p q : List ℕ) → Accepted p → Accepted q → Alike m p → Alike n q → (id : ℕ) (x : Result OfTwo Refusal) → TwoGives p q id x
      → view_of_two_outcome p q x ≡ two_of (name_of (of_id id (view_in n).tracks)) (name_of (of_id id (view_in m).tracks))
  pub part_of_two : (m n p q : List ℕ) → Accepted p → Accepted q → Alike m p → Alike n q → (id : ℕ) (v : List ℕ) → TwoPartGives p q id v
      → v ≡ view_of_two_part (two_of (name_of (of_id id (view_in n).tracks)) (name_of (of_id id (view_in m).tracks)))
