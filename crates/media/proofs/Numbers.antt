-- Which numbers the refusal of a media preamble can have; bytes lack with 5, the header's, alone.
use Prim.Native.Nat.{ℕ, ◌-◌}
use mathlib.Core.Path.{◌≡◌, refl, subst}
use mathlib.Core.List.{List}
use native.Mathlib.Omega.{arith}
use lib.ListN.{length, get_or, take, drop}
use lib.Dec.{ltb}
use Rattle.std.specs.Prelude.{Result, Ok, Err}
use Rattle.plate.specs.declared.Refusal.{Refusal}
use Rattle.media.specs.declared.Media.{Media}
use Rattle.plate.proofs.Numbers.{either, Among}
use Rattle.packet.specs.Packet.{header_at}
use Rattle.packet.specs.Lacking.{PassedOn}
use Rattle.packet.proofs.Torn.{type_passes, passed_by}
use Rattle.media.specs.Media.{preamble_of, preamble_in, preamble_at}

abbrev pub OfMedia : Result Media Refusal → Type 0
OfMedia (Ok m) = Unit {0}
OfMedia (Err r) = Among 8 12 r

pub preamble_numbers : (p : List ℕ) (at : ℕ) → OfMedia (preamble_of p at)
unfolding preamble_of
preamble_numbers p at =
    either OfMedia (ltb (length p - 16) 16) (omega arith, omega arith, λ n. refl) (either OfMedia (ltb 63 (get_or p 17 0)) (omega arith, omega arith, λ n. refl) tt)

-- what the header is refused with, the preamble is refused with, and its 5 is the header's
module _ (s : List ℕ) (at : ℕ) (r : Refusal) where
  pub preamble_passes : header_at s at ≡ Err r → preamble_at s at ≡ Err r
  unfolding preamble_at
  preamble_passes e = rw (type_passes s at 0xBF r e)

  pub preamble_passed : preamble_at s at ≡ Err r → PassedOn s at r
  unfolding preamble_at
  preamble_passed = passed_by (preamble_in s at) (Err r) s at 0xBF r (omega arith) (λ q e. cc) (λ p e. subst OfMedia e (preamble_numbers (take p.len (drop at s)) at))
