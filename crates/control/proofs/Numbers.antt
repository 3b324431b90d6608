-- No refusal has the number 0: where C sees number 0, the call was answered. And where it sees a number other than 5, no bytes lack.
use Prim.Native.Nat.{ℕ}
use mathlib.Core.Path.{◌≡◌, refl}
use mathlib.Core.List.{List}
use native.Mathlib.Omega.{arith}
use Rattle.std.specs.Prelude.{Result, Ok, Err}
use Rattle.plate.specs.Plate.{number}
use Rattle.plate.specs.declared.Refusal.{Refusal}
use Rattle.plate.proofs.Numbers.{Among}
use Rattle.packet.specs.Packet.{header_at}
use Rattle.packet.specs.declared.Packet.{Packet}
use Rattle.packet.proofs.Numbers.{OfHeader, header_numbers}
use Rattle.locator.specs.Locator.{position_at}
use Rattle.locator.proofs.Numbers.{OfPosition, position_numbers}
use Rattle.stream.specs.Stream.{seek_of}
use Rattle.stream.proofs.Numbers.{OfSeek, seek_numbers}
use Rattle.control.specs.Control.{header_for_c, position_for_c, seek_for_c}

-- what number and bytes lacking tell: with 0 it is X, and with a number other than 5 no bytes lack
abbrev Tells : ℕ → ℕ → Type 0 → Type 0
Tells number lacking X = (number ≡ 0 → X) × ((number ≡ 5 → ⊥) → lacking ≡ 0)

refused_tells : {X : Type 0} {hi : ℕ} (r : Refusal) → Among 1 hi r → Tells (number r) r.lacking X
refused_tells r h = (λ e. absurd (omega (arith, h.0)), h.2)

pub header_tells : (s : List ℕ) (at : ℕ) → Tells (header_for_c (header_at s at)).number (header_for_c (header_at s at)).lacking ((p : Packet) × (header_at s at ≡ Ok p))
unfolding header_for_c
header_tells s at = go (header_at s at) (header_numbers s at)
  where
    go : (a : Result Packet Refusal) → OfHeader 5 a → Tells (header_for_c a).number (header_for_c a).lacking ((p : Packet) × (a ≡ Ok p))
    go (Ok p) h = (λ e. (p, refl), λ n. refl)
    go (Err r) h = refused_tells r h

pub position_tells : (s : List ℕ) (at d : ℕ) → Tells (position_for_c (position_at s at d)).number (position_for_c (position_at s at d)).lacking ((o : ℕ) × (position_at s at d ≡ Ok o))
unfolding position_for_c
position_tells s at d = go (position_at s at d) (position_numbers s at d)
  where
    go : (a : Result ℕ Refusal) → OfPosition 1 a → Tells (position_for_c a).number (position_for_c a).lacking ((o : ℕ) × (a ≡ Ok o))
    go (Ok o) h = (λ e. (o, refl), λ n. refl)
    go (Err r) h = refused_tells r h

pub seek_tells : (s : List ℕ) (track field : ℕ) → Tells (seek_for_c (seek_of s track field)).number (seek_for_c (seek_of s track field)).lacking ((o : ℕ) × (seek_of s track field ≡ Ok o))
unfolding seek_for_c
seek_tells s track field = go (seek_of s track field) (seek_numbers s track field)
  where
    go : (a : Result ℕ Refusal) → OfSeek a → Tells (seek_for_c a).number (seek_for_c a).lacking ((o : ℕ) × (a ≡ Ok o))
    go (Ok o) h = (λ e. (o, refl), λ n. refl)
    go (Err r) h = refused_tells r h
