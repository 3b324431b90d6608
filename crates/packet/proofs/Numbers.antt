-- Which numbers the refusal of a header can have, 1 to 5, and that of a packet of an asked type, 1 to 6; bytes lack with 5 alone.
use Prim.Native.Nat.{ℕ, ◌+◌, ◌-◌, ◌%◌}
use mathlib.Core.Path.{refl}
use mathlib.Core.List.{List}
use native.Mathlib.Omega.{arith}
use lib.ListN.{length}
use lib.Dec.{ltb, eqb}
use Rattle.std.specs.Prelude.{Result, Ok, Err}
use Rattle.plate.proofs.Numbers.{either, Among}
use Rattle.number.specs.Number.{be}
use Rattle.packet.specs.Packet.{sized_at, header_at, if_type, packet_at}
use Rattle.packet.specs.declared.Packet.{Packet}
use Rattle.plate.specs.declared.Refusal.{Refusal}

abbrev pub OfHeader : ℕ → Result Packet Refusal → Type 0
OfHeader hi (Ok p) = Unit {0}
OfHeader hi (Err r) = Among 1 hi r

pub header_numbers : (s : List ℕ) (at : ℕ) → OfHeader 5 (header_at s at)
unfolding header_at sized_at
header_numbers s at =
    either (OfHeader 5) (ltb (length s - at) 16) (omega arith, omega arith, λ n. refl)
    (either (OfHeader 5) (eqb (be s at 5) 1)
    (either (OfHeader 5) (eqb (be s (at + 14) 2) 0xE1E2)
    (either (OfHeader 5) (ltb (be s (at + 6) 4) 16) (omega arith, omega arith, λ n. refl)
    (either (OfHeader 5) (eqb (be s (at + 6) 4 % 4) 0) (either (OfHeader 5) (ltb (length s - at) (be s (at + 6) 4)) (omega arith, omega arith, λ n. absurd (n refl)) tt) (omega arith, omega arith, λ n. refl)))
    (omega arith, omega arith, λ n. refl))
    (omega arith, omega arith, λ n. refl))

pub packet_numbers : (s : List ℕ) (at packet_type : ℕ) → OfHeader 6 (packet_at s at packet_type)
unfolding packet_at
packet_numbers s at packet_type = go (header_at s at) (header_numbers s at)
  where
    go : (a : Result Packet Refusal) → OfHeader 5 a → OfHeader 6 (if_type at packet_type a)
    go (Err r) h = (h.0, omega (arith, h.1), h.2)
    go (Ok p) h = either (OfHeader 6) (eqb p.packet_type packet_type) tt (omega arith, omega arith, λ n. refl)
