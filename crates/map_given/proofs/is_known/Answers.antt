use native.Mathlib.Omega.{arith}
use borrow.Author.Tests.{le-leb, lt-leb}
use Rattle.media_type.specs.MediaType.{known_type}
use Rattle.map_given.proofs.is_known.Goals as goal

pub returns-else-media_type-le255 : goal.returns-else-media_type-le255
unfolding known_type
returns-else-media_type-le255 c = let k = c.args.media_type in
    simp (lt-leb k 255 c.if-media_type-le255.false, le-leb 3 k (omega arith), lt-leb k 4 (omega arith), le-leb 7 k (omega arith), lt-leb k 18 (omega arith), le-leb 20 k (omega arith), lt-leb k 26 (omega arith))
