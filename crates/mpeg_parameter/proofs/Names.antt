-- Identifiers as numbers: the table's are those of Table 7, and two identifiers of one number are the same bytes.
use Prim.Native.Nat.{ℕ, zero, suc, ◌<◌, ◌≤◌}
use mathlib.Core.Path.{◌≡◌, refl, ap}
use mathlib.Core.List.{List, [], ◌∷◌, map}
use native.Mathlib.Omega.{arith}
use native.Mathlib.Nat.{zero-add}
use native.Mathlib.Numerals.{add-one}
use borrow.Author.Count.{below_more}
use lib.ListN.{length, get_or}
use lib.Seq.{ext_get_or}
use Rattle.number.specs.Number.{be}
use Rattle.mpeg_parameter.specs.Table.{table, name}
use Rattle.mpeg_parameter.specs.declared.Row.{Row}

abbrev pub numbered : List ℕ → ℕ
numbered v = be v 0 (length v)

-- Ver, Br, Ipg, Ppi, Bpiop, Pix, Cf, Cg, Sl, nl16, Vi, f1, cbpg, ar, in ASCII
abbrev pub identifiers : List (List ℕ)
identifiers =
    (0x56 ∷ 0x65 ∷ 0x72 ∷ [])
    ∷ (0x42 ∷ 0x72 ∷ [])
    ∷ (0x49 ∷ 0x70 ∷ 0x67 ∷ [])
    ∷ (0x50 ∷ 0x70 ∷ 0x69 ∷ [])
    ∷ (0x42 ∷ 0x70 ∷ 0x69 ∷ 0x6F ∷ 0x70 ∷ [])
    ∷ (0x50 ∷ 0x69 ∷ 0x78 ∷ [])
    ∷ (0x43 ∷ 0x66 ∷ [])
    ∷ (0x43 ∷ 0x67 ∷ [])
    ∷ (0x53 ∷ 0x6C ∷ [])
    ∷ (0x6E ∷ 0x6C ∷ 0x31 ∷ 0x36 ∷ [])
    ∷ (0x56 ∷ 0x69 ∷ [])
    ∷ (0x66 ∷ 0x31 ∷ [])
    ∷ (0x63 ∷ 0x62 ∷ 0x70 ∷ 0x67 ∷ [])
    ∷ (0x61 ∷ 0x72 ∷ [])
    ∷ []

pub spelled : map (λ (r : Row). name r) table ≡ map (λ (v : List ℕ). numbered v) identifiers
unfolding table be
spelled = refl

-- bytes, and none of them 0, as all of an identifier's are
abbrev pub NoZero : List ℕ → Type 0
NoZero v = (i : ℕ) → i < length v → (0 < get_or v i 0) × (get_or v i 0 < 256)

module _ (v w : List ℕ) (p : NoZero v) (q : NoZero w) where
  front : (n m : ℕ) → n ≤ length v → m ≤ length w → be v 0 n ≡ be w 0 m → (n ≡ m) × ((i : ℕ) → i < n → get_or v i 0 ≡ get_or w i 0)
  unfolding be
  front zero zero h k e = (refl, λ i l. absurd (omega arith))
  front zero (suc m) h k e = absurd (let a = q m k in let f = rw zero-add at e in omega arith)
  front (suc n) zero h k e = absurd (let a = p n h in let f = rw zero-add at e in omega arith)
  front (suc n) (suc m) h k e =
      let a = p n h in
      let b = q m k in
      let f = rw (zero-add n, zero-add m) at e in
      let r = front n m (omega arith) (omega arith) (omega arith) in
      let y : get_or v n 0 ≡ get_or w m 0 = omega arith in
      let z : get_or v n 0 ≡ get_or w n 0 = cc in
      (ap suc r.0, rw add-one at (below_more _ n r.1 z))

  pub alike : numbered v ≡ numbered w → v ≡ w
  alike e = let f = front (length v) (length w) (omega arith) (omega arith) e in ext_get_or 0 v w f.0 f.1
