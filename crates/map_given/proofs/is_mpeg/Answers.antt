use native.Mathlib.Omega.{arith}
use borrow.Author.Tests.{le-leb, lt-leb, ne_eqb}
use Rattle.media_type.specs.MediaType.{mpeg_type}
use Rattle.map_given.proofs.is_mpeg.Goals as goal

pub returns-else-media_type-le255 : goal.returns-else-media_type-le255
unfolding mpeg_type
returns-else-media_type-le255 c = let k = c.args.media_type in
    simp (lt-leb k 255 c.if-media_type-le255.false, le-leb 11 k (omega arith), lt-leb k 12 (omega arith), ne_eqb k 20 (λ e. omega arith), le-leb 22 k (omega arith), lt-leb k 23 (omega arith))
