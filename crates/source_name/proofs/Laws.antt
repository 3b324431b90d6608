-- A name that is there lies within the lent bytes.
use Prim.Native.Nat.{ℕ, ◌+◌, ◌≤◌, ◌<◌}
use mathlib.Core.Path.{◌≡◌, refl, ap}
use mathlib.Core.List.{List}
use native.Mathlib.Omega.{arith}
use lib.ListN.{length, take, drop, length-drop}
use lib.Seq.{length-take-le}
use Rattle.std.specs.Prelude.{Some, Ok}
use Rattle.map_items.specs.Find.{missing, found}
use Rattle.umf.specs.Split.{least_of}
use Rattle.umf.specs.Umf.{Asked, refused, answered, asked_at, place_of}
use Rattle.umf.specs.declared.Described.TheVariants.{Segments}
use Rattle.umf.proofs.Stands.{stands}
use Rattle.segment.specs.Segment.{name_of, segment_of, segment_in, segment_at}
use Rattle.segment.proofs.Names.{name_says}
use Rattle.source_name.specs.SourceName.{name_in, name_at}

-- in a media description of 160 bytes or more that begins at place q
pub in_description : (q : ℕ) (d : List ℕ) (a m : ℕ) → 160 ≤ length d → name_of q d ≡ Some (record { at = a; len = m }) → (a ≡ q + 24) × (m < 88)
in_description q d a m h e =
    let t = (name_says (q + 24) (take 88 (drop 24 d))).shown a m e in
    (t.0, omega (arith, t.1.inside, length-take-le 88 (drop 24 d) (omega (arith, length-drop 24 d))))

pub name_within : (s : List ℕ) (at n a m : ℕ) → name_at s at n ≡ Ok (Some (record { at = a; len = m })) → at + a + m ≤ length s
unfolding name_at segment_at place_of segment_of least_of
name_within s at n a m = go (asked_at s at Segments n) refl
  where
    go : (x : Asked) → asked_at s at Segments n ≡ x → name_in (segment_in x) ≡ Ok (Some (record { at = a; len = m })) → at + a + m ≤ length s
    go (refused r) f e = absurd (let z : ◌≡◌ {A = ℕ} 0 1 = cc in omega arith)
    go (answered missing) f e = absurd (let z : ◌≡◌ {A = ℕ} 0 1 = cc in omega arith)
    go (answered (found q d)) f e =
        let g = stands s at Segments n q (length d) (ap place_of f) in
        let y : name_of q d ≡ Some (record { at = a; len = m }) = cc in
        let w = in_description q d a m g.least y in
        omega (arith, w.0, w.1, g.inside)
