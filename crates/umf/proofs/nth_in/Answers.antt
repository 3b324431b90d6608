use borrow.Author.Rules.{rules}
use native.Mathlib.Omega.{arith}
use mathlib.Core.Path.{sym}
use borrow.Author.Tests.{eq-eqb}
use Rattle.umf.proofs.Laws.{good_umf, cut_out, cut_good}
use Rattle.umf.proofs.nth_in.Goals as goal

pub bounds-p-16 : goal.bounds-p-16
bounds-p-16 c = let g = good_umf _ c.requires in search (rules, g.holds)

pub be4-end-requires : goal.be4-end-requires
be4-end-requires c = let g = good_umf _ c.requires in omega (arith, g.holds)

pub overflow_add-end : goal.overflow_add-end
overflow_add-end c = let g = good_umf _ c.requires in search (rules, g.holds, c.be4-end.ensures)

pub slice_bounds-payload-end : goal.slice_bounds-payload-end
slice_bounds-payload-end c = let g = good_umf _ c.requires in omega (arith, g.holds, c.be4-end.ensures)

pub invariant_of-payload : goal.invariant_of-payload
invariant_of-payload c = let g = cut_good _ _ c.be4-end.ensures c.requires c.if-p-ne3.false in record { described = omega (arith, g.described) }

pub nth-requires : goal.nth-requires
nth-requires c = let g = cut_good _ _ c.be4-end.ensures c.requires c.if-p-ne3.false in (g.each _).inside

pub returns : goal.returns
returns c = simp (eq-eqb _ _ c.if-p-ne3.false, sym (cut_out _ _ c.be4-end.ensures)) c.nth.ensures
