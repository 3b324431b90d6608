-- A map that was put together has the fewest zeros behind its track section.
use Prim.Native.Nat.{ℕ, ◌+◌, ◌-◌, ◌<◌}
use mathlib.Core.Path.{◌≡◌, sym, ◌∙◌, ap}
use mathlib.Core.List.{List, ◌++◌, map, append_assoc}
use native.Mathlib.Omega.{arith}
use lib.ListN.{length, drop, replicate, length-append}
use lib.Seq.{drop_at}
use Rattle.map_items.specs.Items.{items_bytes}
use Rattle.map_tracks.specs.Tracks.{descriptions_bytes}
use Rattle.map.specs.Map.{layout_of}
use Rattle.map.specs.Encode.{MapParts, described, padding, section_bytes, packet_length, front, packet_of, encode}
use Rattle.map.proofs.Encoded.{padding_under, front_length, sections_length, packet_length_lem, layout_encoded, Fit}
use Rattle.map_newer.specs.Demand.{Padded}

module _ (spare : List ℕ) (second : ℕ) (m t : List ℕ) (four : length spare ≡ 4) where
  abbrev ended : List ℕ
  ended = front (packet_length m t) spare second ++ section_bytes m t

  abbrev zeros : List ℕ
  zeros = replicate (padding (22 + length m + length t)) 0

  ended_length : length ended ≡ 22 + length m + length t
  ended_length =
      omega (
        arith,
        length-append (front (packet_length m t) spare second) (section_bytes m t),
        front_length (packet_length m t) spare second four,
        sections_length m t,
      )

  -- what stands behind the two sections
  behind : drop (22 + length m + length t) (packet_of spare second m t) ≡ zeros
  unfolding packet_of
  behind = ap (drop (22 + length m + length t)) (sym (append_assoc (front (packet_length m t) spare second) (section_bytes m t) zeros)) ∙ drop_at ended zeros (22 + length m + length t) ended_length

  as_many : length (packet_of spare second m t) ≡ 22 + length m + length t + padding (22 + length m + length t)
  unfolding packet_length
  as_many = packet_length_lem spare second m t four

  packet_padded : length m < 65536 → length t < 65536 → Padded (packet_of spare second m t) (layout_of (packet_of spare second m t))
  packet_padded mf tf =
      let n : length (packet_of spare second m t) - (22 + length m + length t) ≡ padding (22 + length m + length t) = omega (arith, as_many) in
      rw (layout_encoded spare second m t four mf tf) (omega (arith, as_many, padding_under (22 + length m + length t)), rw n behind)

pub encoded_padded : (p : MapParts) → Fit p → Padded (encode p) (layout_of (encode p))
unfolding encode
encoded_padded p f = packet_padded p.spare p.second (items_bytes p.material) (descriptions_bytes (map described p.tracks)) f.four f.material f.tracks
