use Rattle.segment.specs.Segment.{number_of}
use Rattle.segment.proofs.Floats.{is_number, is_none}
use Rattle.segment.proofs.number_of.Goals as goal

pub float_from_bits-result : goal.float_from_bits-result
float_from_bits-result c = rw (is_number _ c.if-bits-le9218868437227405312.true) tt

pub returns-then-bits-le9218868437227405312 : goal.returns-then-bits-le9218868437227405312
unfolding number_of
returns-then-bits-le9218868437227405312 c = simp (is_number _ c.if-bits-le9218868437227405312.true)

pub returns : goal.returns
unfolding number_of
returns c = simp (is_none _ c.if-bits-le9218868437227405312.false)
