-- Any two outcomes that a contract of this crate allows are equal.
use mathlib.Core.Path.{◌≡◌, sym, ◌∙◌}
use contract.Lifetimes.{Lfts}
use borrow.Fn.Kinds.{ended_of, res_t, Dens}
use denote.Triple.Clauses.{AtExit}
use Rattle.plate.proofs.Outcome.{OneAnswer}
use Rattle.map_name.proofs.name_place.Kinds as name-place-kinds
use Rattle.map_name.proofs.name_place.Reads as name-place-reads
use Rattle.map_name.proofs.name_place_of_two.Kinds as name-place-of-two-kinds
use Rattle.map_name.proofs.name_place_of_two.Reads as name-place-of-two-reads
use Rattle.map_name.proofs.name.Kinds as name-kinds
use Rattle.map_name.proofs.name.Reads as name-reads
use Rattle.map_name.proofs.name_of_two.Kinds as name-of-two-kinds
use Rattle.map_name.proofs.name_of_two.Reads as name-of-two-reads

pub name_place_once : OneAnswer 1 name-place-kinds.ps name-place-kinds.r name-place-reads.Post
name_place_once κs a x y s t p q = p ∙ sym q

pub name_place_of_two_once : OneAnswer 2 name-place-of-two-kinds.ps name-place-of-two-kinds.r name-place-of-two-reads.Post
name_place_of_two_once κs a x y s t p q = p ∙ sym q

-- of a part that is handed back: its bytes, and where it stands
pub name_once : (κs : Lfts 1) (a : Dens κs name-kinds.ps) (x y : (res_t name-kinds.r κs).Denot) (s t : AtExit (ended_of 1 name-kinds.ps name-kinds.r) κs)
    → name-reads.Post κs a x s → name-reads.Post κs a y t → (x.now ≡ y.now) × (x.ref_ptr ≡ y.ref_ptr)
name_once κs a x y s t p q = (p.0 ∙ sym q.0, p.1 ∙ sym q.1)

pub name_of_two_once : (κs : Lfts 1) (a : Dens κs name-of-two-kinds.ps) (x y : (res_t name-of-two-kinds.r κs).Denot) (s t : AtExit (ended_of 1 name-of-two-kinds.ps name-of-two-kinds.r) κs)
    → name-of-two-reads.Post κs a x s → name-of-two-reads.Post κs a y t → (x.now ≡ y.now) × (x.ref_ptr ≡ y.ref_ptr)
name_of_two_once κs a x y s t p q = (p.0 ∙ sym q.0, p.1 ∙ sym q.1)
