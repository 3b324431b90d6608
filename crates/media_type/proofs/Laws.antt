-- The known types are at most 26.
use Prim.Native.Nat.{ℕ, ◌<◌, ◌≤◌}
use mathlib.Core.Path.{◌≡◌, refl, sym, ◌∙◌}
use mathlib.Core.Bool.{Bool, true, false}
use native.Mathlib.Omega.{arith}
use borrow.Author.Tests.{leb-true, leb-false, le-leb, lt-leb}
use lib.Dec.{leb}
use Rattle.media_type.specs.MediaType.{known_type}

pub known_over : (k : ℕ) → 26 < k → known_type k ≡ false
unfolding known_type
known_over k h =
    simp (le-leb 3 k (omega arith), lt-leb k 4 (omega arith), le-leb 7 k (omega arith), lt-leb k 18 (omega arith), le-leb 20 k (omega arith), lt-leb k 26 (omega arith))

pub known_under : (k : ℕ) → known_type k ≡ true → k ≤ 26
known_under k e = go (leb k 26) refl
  where
    go : (b : Bool) → leb k 26 ≡ b → k ≤ 26
    go true q = leb-true k 26 q
    go false q = absurd (let n = known_over k (leb-false k 26 q) in let z : false ≡ true = sym n ∙ e in let y : ◌≡◌ {A = ℕ} 0 1 = cc in omega arith)
