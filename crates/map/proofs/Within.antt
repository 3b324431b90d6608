-- A packet is read the same wherever it stands in lent bytes.
use Prim.Native.Nat.{ℕ, ◌+◌, ◌-◌, ◌≤◌, ◌<◌}
use mathlib.Core.Path.{◌≡◌, sym, ◌∙◌, ap}
use mathlib.Core.List.{List, ◌++◌}
use native.Mathlib.Omega.{arith}
use native.Mathlib.Nat.{add-zero, add-sub_cancel_left}
use lib.ListN.{length, get_or, length-append, get_or-append}
use lib.Seq.{take-append_seam, drop-append_seam, get_or-append-add}
use Rattle.std.specs.Prelude.{Ok}
use Rattle.number.specs.Number.{be}
use Rattle.number.proofs.Laws.{be-after, be-take}
use Rattle.packet.specs.Packet.{header_at, packet_at}
use Rattle.packet.proofs.Laws.{accepts, whole}
use Rattle.map_tracks.specs.Tracks.{kth_of}
use Rattle.map.specs.Map.{map_verdict, answer_of, on_kth, track_in, map_at, track_at, material_says, listed_in}
use Rattle.plate.specs.Part.{part}

module _ (a m b : List ℕ) where
  s : List ℕ
  s = a ++ (m ++ b)

  number_there : (k n : ℕ) → k + n ≤ length m → be s (length a + k) n ≡ be m k n
  unfolding s
  number_there k n h = be-after a (m ++ b) k n ∙ sym (be-take (length m) (m ++ b) k n h) ∙ rw (take-append_seam m b)

  byte_there : (k : ℕ) → k < length m → get_or s (length a + k) 0 ≡ get_or m k 0
  unfolding s
  byte_there k h = get_or-append-add a (m ++ b) k 0 ∙ get_or-append m b 0 k h

  pub part_there : part (length a) (length a + length m) (a ++ (m ++ b)) ≡ m
  part_there = rw (add-sub_cancel_left, drop-append_seam a (m ++ b)) (take-append_seam m b)

  module _ (h : header_at m 0 ≡ Ok (record { packet_type = 0xBC; len = length m })) where
    header_there : header_at s (length a) ≡ Ok (record { packet_type = 0xBC; len = length m })
    unfolding s
    header_there =
        let g = whole m 0 (record { packet_type = 0xBC; len = length m }) h in
        let leader : be s (length a) 5 ≡ 1 = rw add-zero at (number_there 0 5 (omega (arith, g.least))) ∙ g.leader in
        let trailer : be s (length a + 14) 2 ≡ 0xE1E2 = number_there 14 2 (omega (arith, g.least)) ∙ g.trailer in
        let long : be s (length a + 6) 4 ≡ length m = number_there 6 4 (omega (arith, g.least)) ∙ sym g.lens in
        let within : length m ≤ length s - length a = omega (arith, length-append a (m ++ b), length-append m b) in
        let type_byte : get_or s (length a + 5) 0 ≡ 0xBC = byte_there 5 (omega (arith, g.least)) ∙ sym g.kinds in
        accepts s (length a) (length m) leader trailer long g.least g.fours within ∙ ap (λ (k : ℕ). Ok (record { packet_type = k; len = length m })) type_byte

    pub packet_there : packet_at (a ++ (m ++ b)) (length a) 0xBC ≡ Ok (record { packet_type = 0xBC; len = length m })
    unfolding packet_at s
    packet_there = rw header_there

    module _ (v : map_verdict m ≡ (Ok tt)) where
      pub read_there : map_at (a ++ (m ++ b)) (length a) ≡ Ok (record { count = length (listed_in m); material = material_says m })
      unfolding map_at answer_of packet_at s
      read_there = rw (header_there, part_there, v)

      pub track_there : (k : ℕ) → track_at (a ++ (m ++ b)) (length a) k ≡ on_kth (kth_of k (listed_in m))
      unfolding track_at track_in packet_at s
      track_there k = rw (header_there, part_there, v)
