use native.Mathlib.Omega.{arith}
use lib.ListN.{length-set}
use Rattle.number.specs.Number.{be_bytes}
use Rattle.packet_writer.specs.Write.{header_of}
use Rattle.packet_writer.proofs.put_header.Goals as goal

pub put_be-requires-2 : goal.put_be-requires-2
put_be-requires-2 c = simp length-set (omega (arith, c.put_be.auto.out))

pub put_be-requires-3 : goal.put_be-requires-3
put_be-requires-3 c = omega (arith, simp length-set at c.put_be-2.auto.out, c.put_be.auto.out)

pub put_be-requires-4 : goal.put_be-requires-4
put_be-requires-4 c = omega (arith, c.put_be-3.auto.out, simp length-set at c.put_be-2.auto.out, c.put_be.auto.out)

pub shape_of-out : goal.shape_of-out
shape_of-out c = omega (arith, c.put_be-4.auto.out, c.put_be-3.auto.out, simp length-set at c.put_be-2.auto.out, c.put_be.auto.out)

pub returns : goal.returns
unfolding header_of be_bytes
returns c = simp (c.put_be-4.ensures, c.put_be-3.ensures, c.put_be-2.ensures, c.put_be.ensures)
