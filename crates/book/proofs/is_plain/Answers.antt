use native.Mathlib.Omega.{arith}
use borrow.Author.Tests.{le-ltb, eq-eqb, le-leb, lt-leb}
use Prim.Native.Nat.{◌/◌}
use Rattle.media_type.specs.MediaType.{known_type}
use Rattle.book.specs.Inside.{plain_head}
use Rattle.book.proofs.is_plain.Goals as goal

pub returns-then-head-lt318767104 : goal.returns-then-head-lt318767104
unfolding plain_head known_type
returns-then-head-lt318767104 c = let h = c.args.head in
    let k = h / 0x1000000 in
    rw (eq-eqb _ _ c.if-head-ne22599.false, le-ltb _ _ c.if-head-gt63.false)
    (simp (le-leb 3 k (omega arith), lt-leb k 4 (omega arith), le-leb 7 k (omega arith), le-leb k 18 (omega arith)))
