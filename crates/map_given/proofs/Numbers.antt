-- The fault of an input, 29 aside, is 24, 11 or 10.
use Prim.Native.Nat.{ℕ, ◌%◌}
use mathlib.Core.Path.{◌≡◌, refl, sym}
use mathlib.Core.Bool.{Bool, true, false}
use mathlib.Core.List.{List, [], ◌∷◌}
use lib.ListN.{length}
use lib.Dec.{ltb, eqb}
use Rattle.std.specs.Prelude.{Option, Some, None}
use Rattle.plate.specs.Choice.{pick}
use Rattle.plate.specs.Plate.{number_of}
use Rattle.plate.specs.declared.Fault.{Fault}
use Rattle.plate.specs.declared.Fault.TheVariants as fault
use Rattle.media_type.specs.MediaType.{known_type}
use Rattle.map_items.specs.Judge.{has}
use Rattle.map_items.proofs.Anywhere.{never}
use Rattle.map_given.specs.declared.Slot.{Slot}
use Rattle.map_given.specs.Given.{material_slots, Given, tracks_given}
use Rattle.map_given.specs.Faults.{fits, reads, slot_fault, graver, slots_fault, given, barred, own_fault, tracks_fault, id_fault, ids_fault, fault_of}

-- a fault that an input can have, or none
abbrev pub Named : Option Fault → Type 0
Named None = Unit {0}
Named (Some f) = has (number_of f) (24 ∷ 11 ∷ 10 ∷ []) ≡ true

named_pick : (x : Bool) (a b : Option Fault) → Named a → Named b → Named (pick x a b)
named_pick true a b p q = p
named_pick false a b p q = q

-- each of the three
named : Named (Some fault.Barred) × Named (Some fault.Text) × Named (Some fault.Twice)
unfolding has
named = (refl, refl, refl)

named_graver : (a b : Option Fault) → Named a → Named b → Named (graver a b)
named_graver None b p q = q
named_graver (Some f) None p q = p
named_graver (Some f) (Some g) p q = go (ltb (number_of f) (number_of g))
  where
    go : (x : Bool) → Named (Some (pick x g f))
    go true = q
    go false = p

slot_named : (text : List ℕ) (s : Slot) → Named (slot_fault text s)
unfolding slot_fault
slot_named text s =
    named_pick (eqb s.mark 0) None _ tt
    (named_pick (eqb s.mark 1) _ _ (named_pick (fits text s) _ _ (named_pick (reads text s) None _ tt named.1) named.0) named.0)

slots_named : (text : List ℕ) (ss : List Slot) → Named (slots_fault text ss)
unfolding slots_fault
slots_named text [] = tt
slots_named text (s ∷ ss) = named_graver (slot_fault text s) (slots_fault text ss) (slot_named text s) (slots_named text ss)

own_named : (t : Given) → Named (own_fault t)
unfolding own_fault
own_named t =
    named_pick (known_type t.media_type) _ _
    (named_pick (barred t.slots) _ _ named.0 (named_pick (given 0x4D t.slots) _ None (named_pick (given 0x4F t.slots) _ None named.2 tt) tt))
    named.0

tracks_named : (text : List ℕ) (ts : List Given) → Named (tracks_fault text ts)
unfolding tracks_fault
tracks_named text [] = tt
tracks_named text (t ∷ ts) =
    named_graver (graver (own_fault t) (slots_fault text t.slots)) (tracks_fault text ts)
    (named_graver (own_fault t) (slots_fault text t.slots) (own_named t) (slots_named text t.slots))
    (tracks_named text ts)

ids_named : (ids : List ℕ) (ts : List Given) → Named (ids_fault ids ts)
unfolding ids_fault id_fault
ids_named ids [] = tt
ids_named ids (t ∷ ts) =
    named_graver (pick (ltb 63 t.id) (Some fault.Barred) (pick (has t.id ids) (Some fault.Twice) None)) (ids_fault (t.id ∷ ids) ts)
    (named_pick (ltb 63 t.id) _ _ named.0 (named_pick (has t.id ids) _ None named.2 tt))
    (ids_named (t.id ∷ ids) ts)

pub fault_named : (text ms ts : List ℕ) → Named (fault_of text ms ts)
unfolding fault_of
fault_named text ms ts =
    named_pick (eqb (length ms) 18) _ _
    (named_pick (eqb (length ts % 23) 0) _ _
    (named_graver _ _ (named_graver _ _ (slots_named text (material_slots ms)) (tracks_named text (tracks_given ts))) (ids_named [] (tracks_given ts)))
    named.0)
    named.0

-- such a fault is one of the writer's refusals, and is none of the room's or the form's
pub fault_among : (f : Fault) → Named (Some f) → has (number_of f) (24 ∷ 11 ∷ 10 ∷ 29 ∷ 13 ∷ []) ≡ true
unfolding has
fault_among f = go (eqb (number_of f) 24) (eqb (number_of f) 11) (eqb (number_of f) 10)
  where
    go : (a b c : Bool) → pick a true (pick b true (pick c true false)) ≡ true
        → pick a true (pick b true (pick c true (pick (eqb (number_of f) 29) true (pick (eqb (number_of f) 13) true false)))) ≡ true
    go true b c h = refl
    go false true c h = refl
    go false false true h = refl
    go false false false h = never (sym h)

pub not_13 : (f : Fault) → Named (Some f) → number_of f ≡ 13 → ⊥
unfolding has
not_13 f n e = never (sym (rw e at n))

pub not_29 : (f : Fault) → Named (Some f) → number_of f ≡ 29 → ⊥
unfolding has
not_29 f n e = never (sym (rw e at n))
