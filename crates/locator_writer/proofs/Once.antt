-- Any two outcomes that the contract of `write` allows are equal: the answer, and what the buffer holds.
use mathlib.Core.Path.{◌≡◌, sym, ◌∙◌}
use contract.Lifetimes.{Lfts}
use borrow.Fn.Kinds.{ended_of, res_t, Dens}
use denote.Triple.Clauses.{AtExit}
use Rattle.locator_writer.proofs.write.Kinds as kinds
use Rattle.locator_writer.proofs.write.Reads as reads

pub write_once : (κs : Lfts 2) (a : Dens κs kinds.ps) (x y : (res_t kinds.r κs).Denot) (s t : AtExit (ended_of 2 kinds.ps kinds.r) κs)
    → reads.Post κs a x s → reads.Post κs a y t → (x ≡ y) × (s.0.now ≡ t.0.now)
write_once κs a x y s t p q = (p.0 ∙ sym q.0, p.1 ∙ sym q.1)
