-- The proof of specs/Marks.antt.
use Prim.Native.Nat.{◌<◌}
use native.Mathlib.Omega.{arith}
use Rattle.media_type.proofs.Laws.{known_under}
use Rattle.field.specs.Marks.{KnownMarks}
use Rattle.field.proofs.Laws.{mark_back, type_back}

pub known_marks : KnownMarks
known_marks type k =
    let h : type < 64 = omega (arith, known_under type k) in
    record { under = h; mark = λ marked. mark_back marked type h; alone = λ marked. type_back marked type h }
