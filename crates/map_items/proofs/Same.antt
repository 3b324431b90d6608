-- Equal parts stand at one place, and are as long as each other.
use Prim.Native.Nat.{ℕ}
use mathlib.Core.Path.{◌≡◌, ap}
use Rattle.std.proofs.lemmas.Option.{same_Some}
use Rattle.std.specs.Prelude.{Option, Some}
use Rattle.map_items.specs.declared.Part.{Part}

-- the part of n bytes from place q on
abbrev pub part_at : ℕ → ℕ → Option Part
part_at q n = Some (record { at = q; len = n })

pub same_part : (q n r m : ℕ) → part_at q n ≡ part_at r m → (q ≡ r) × (n ≡ m)
same_part q n r m e =
    let same = same_Some (record { at = q; len = n }) (record { at = r; len = m }) e in
    (ap (λ (x : Part). x.at) same, ap (λ (x : Part). x.len) same)
