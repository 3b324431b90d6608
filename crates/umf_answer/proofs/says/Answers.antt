use borrow.Author.Rules.{rules}
use native.Mathlib.Omega.{arith}
use mathlib.Core.Path.{sym}
use borrow.Author.Tests.{eq-eqb, ne_eqb}
use Rattle.number.proofs.Laws.{be_lt}
use Rattle.umf.proofs.Laws.{good_umf, cut_out, cut_good}
use Rattle.umf_answer.specs.Says.{says_of}
use Rattle.umf_answer.proofs.says.Goals as goal

pub bounds-p-16 : goal.bounds-p-16
bounds-p-16 c = let g = good_umf _ c.requires in search (rules, g.holds)

pub preamble_says-requires : goal.preamble_says-requires
preamble_says-requires c = let g = good_umf _ c.requires in omega (arith, g.holds)

pub returns-then-p-ne3 : goal.returns-then-p-ne3
unfolding says_of
returns-then-p-ne3 c = simp (ne_eqb _ _ c.if-p-ne3.true, c.preamble_says.ensures)

pub be4-n-requires : goal.be4-n-requires
be4-n-requires c = let g = good_umf _ c.requires in omega (arith, g.holds)

pub overflow_add-end : goal.overflow_add-end
overflow_add-end c = let g = good_umf _ c.requires in search (rules, g.holds, c.be4-n.ensures)

pub slice_bounds-y-end : goal.slice_bounds-y-end
slice_bounds-y-end c = let g = good_umf _ c.requires in omega (arith, g.holds, c.be4-n.ensures)

pub payload_says-requires : goal.payload_says-requires
payload_says-requires c = (cut_good _ _ c.be4-n.ensures c.requires c.if-p-ne3.false).described

pub material_says-requires : goal.material_says-requires
material_says-requires c = (cut_good _ _ c.be4-n.ensures c.requires c.if-p-ne3.false).described

pub number_of-requires : goal.number_of-requires
number_of-requires c = let g = cut_good _ _ c.be4-n.ensures c.requires c.if-p-ne3.false in (omega (arith, g.described), (g.each _).inside)

pub overflow_cast-result : goal.overflow_cast-result
overflow_cast-result c = let a = c.args in search (rules, c.be4-n.ensures, be_lt a.p.now c.type_inv.p 17 4)

pub returns : goal.returns
unfolding says_of
returns c = let e = cut_out _ _ c.be4-n.ensures in
    simp (eq-eqb _ _ c.if-p-ne3.false, sym e, c.payload_says.ensures, c.material_says.ensures, c.number_of.ensures, c.be4-n.ensures)
