-- Any two outcomes that a contract of this crate allows are equal: the answer, and what the buffer holds.
use mathlib.Core.Path.{◌≡◌, sym, ◌∙◌}
use contract.Lifetimes.{Lfts}
use borrow.Fn.Kinds.{ended_of, res_t, Dens}
use denote.Triple.Clauses.{AtExit}
use Rattle.count_book.proofs.gxf_build.Kinds as build-kinds
use Rattle.count_book.proofs.gxf_build.Reads as build-reads

pub gxf_build_once : (κs : Lfts 2) (a : Dens κs build-kinds.ps) (x y : (res_t build-kinds.r κs).Denot) (s t : AtExit (ended_of 2 build-kinds.ps build-kinds.r) κs)
    → build-reads.Post κs a x s → build-reads.Post κs a y t → (x ≡ y) × (s.0.now ≡ t.0.now)
gxf_build_once κs a x y s t p q = (p.0 ∙ sym q.0, p.1 ∙ sym q.1)
