-- Faults by their numbers: the fault with a number has that number, and a fault that has a name is the one with its number.
use Rattle.std.specs.Prelude.{ℕ, List, [], ◌∷◌, eqb}
use mathlib.Core.Path.{◌≡◌, refl, sym}
use mathlib.Core.Bool.{Bool, true, false}
use borrow.Author.Tests.{eqb-true}
use Rattle.plate.specs.Choice.{pick}
use Rattle.plate.specs.Plate.{number_of, faults, named_among, fault_of}
use Rattle.plate.specs.declared.Fault.{Fault}
use Rattle.plate.specs.declared.Fault.TheVariants.{FewBytes, Leader, Trailer, PacketLength, Torn, OtherType, MapVersion, Overhang, ItemSize, Twice, Text, TypeOrId, Room, LocatorCount, LocatorStep, NotThere, NoMapFirst, StreamEnd, LocatorPlace, MapOverdue, NoUmf, Unmapped, Book, Barred, AuxiliaryLine, NotGiven, WrongForm, UmfForm, Other}

named : (n : ℕ) (fs : List Fault) → number_of (named_among n fs) ≡ n
named n [] = refl
named n (f ∷ fs) = go (eqb n (number_of f)) refl (named n fs)
  where
    go : (b : Bool) → eqb n (number_of f) ≡ b → number_of (named_among n fs) ≡ n → number_of (pick b f (named_among n fs)) ≡ n
    go true e later = sym (eqb-true n (number_of f) e)
    go false e later = later

pub number_of_fault : (n : ℕ) → number_of (fault_of n) ≡ n
number_of_fault n = named n faults

-- each fault that has a name is the fault with its number
pub fault_of_number : (f : Fault) → ((n : ℕ) → f ≡ Other n → ⊥) → fault_of (number_of f) ≡ f
fault_of_number FewBytes h = refl
fault_of_number Leader h = refl
fault_of_number Trailer h = refl
fault_of_number PacketLength h = refl
fault_of_number Torn h = refl
fault_of_number OtherType h = refl
fault_of_number MapVersion h = refl
fault_of_number Overhang h = refl
fault_of_number ItemSize h = refl
fault_of_number Twice h = refl
fault_of_number Text h = refl
fault_of_number TypeOrId h = refl
fault_of_number Room h = refl
fault_of_number LocatorCount h = refl
fault_of_number LocatorStep h = refl
fault_of_number NotThere h = refl
fault_of_number NoMapFirst h = refl
fault_of_number StreamEnd h = refl
fault_of_number LocatorPlace h = refl
fault_of_number MapOverdue h = refl
fault_of_number NoUmf h = refl
fault_of_number Unmapped h = refl
fault_of_number Book h = refl
fault_of_number Barred h = refl
fault_of_number AuxiliaryLine h = refl
fault_of_number NotGiven h = refl
fault_of_number WrongForm h = refl
fault_of_number UmfForm h = refl
fault_of_number (Other n) h = absurd (h n refl)
