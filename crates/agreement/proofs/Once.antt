-- Any two outcomes that the contract of `compare` allows are equal: the answer, and what the buffer holds.
use mathlib.Core.Path.{◌≡◌, sym, ◌∙◌}
use contract.Lifetimes.{Lfts}
use borrow.Fn.Kinds.{ended_of, res_t, Dens}
use denote.Triple.Clauses.{AtExit}
use Rattle.agreement.proofs.compare.Kinds as compare-kinds
use Rattle.agreement.proofs.compare.Reads as compare-reads

pub compare_once : (κs : Lfts 2) (a : Dens κs compare-kinds.ps) (x y : (res_t compare-kinds.r κs).Denot) (s t : AtExit (ended_of 2 compare-kinds.ps compare-kinds.r) κs)
    → compare-reads.Post κs a x s → compare-reads.Post κs a y t → (x ≡ y) × (s.0.now ≡ t.0.now)
compare_once κs a x y s t p q = (p.0 ∙ sym q.0, p.1 ∙ sym q.1)
