use native.Mathlib.Omega.{arith}
use Prim.Native.Nat.{◌+◌}
use borrow.Author.Tests.{eq-eqb, ne_eqb}
use Rattle.number.proofs.Laws.{be_lt}
use Rattle.piece.specs.Seen.{seen_at}
use Rattle.piece.proofs.seen_at.Goals as goal

pub be4-field-requires : goal.be4-field-requires
be4-field-requires c = omega (arith, c.requires.preamble c.if-packet_type.true)

pub bounds-s-at-then-packet_type : goal.bounds-s-at-then-packet_type
bounds-s-at-then-packet_type c = omega (arith, c.requires.preamble c.if-packet_type.true)

pub bounds-s-at-then-packet_type-2 : goal.bounds-s-at-then-packet_type-2
bounds-s-at-then-packet_type-2 c = omega (arith, c.requires.preamble c.if-packet_type.true)

pub overflow_cast-result : goal.overflow_cast-result
overflow_cast-result c = let a = c.args in omega (arith, c.be4-field.ensures, be_lt a.s.now c.type_inv.s (a.at + 18) 4)

pub returns-then-packet_type : goal.returns-then-packet_type
unfolding seen_at
returns-then-packet_type c = rw (eq-eqb _ _ c.if-packet_type.true, c.be4-len.ensures, c.be4-field.ensures)

pub returns : goal.returns
unfolding seen_at
returns c = rw (ne_eqb _ _ c.if-packet_type.false, c.plain.ensures, c.be4-len.ensures)
