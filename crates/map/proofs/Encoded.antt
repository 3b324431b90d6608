-- A map that was put together comes apart as it was: its header, its sections, its items and tracks.
use Prim.Native.Nat.{ℕ, ◌+◌, ◌-◌, ◌%◌, ◌≤◌, ◌<◌, ◌^◌}
use mathlib.Core.Path.{◌≡◌, refl, sym, ◌∙◌, ap}
use mathlib.Core.List.{List, [], ◌∷◌, ◌++◌, map, append_assoc}
use native.Mathlib.Omega.{arith}
use native.Mathlib.Nat.{add-zero, add-sub_cancel_left}
use lib.ListN.{length, get_or, take, drop, replicate, length-append, length-replicate}
use lib.Seq.{take-append_seam, drop_at, take_at, get_or_at}
use borrow.Author.Tests.{le-ltb}
use Rattle.std.specs.Prelude.{Ok}
use Rattle.number.specs.Number.{be, be_bytes}
use Rattle.number.proofs.Laws.{be_back, be-after, length-be_bytes}
use Rattle.packet.specs.Packet.{header_at}
use Rattle.packet.proofs.Laws.{accepts}
use Rattle.map_items.specs.Items.{section_of, items_bytes}
use Rattle.map_items.proofs.Split as items
use Rattle.map_tracks.specs.Tracks as tracks
use Rattle.map_tracks.specs.Tracks.{tracks_of, judge_tracks, tracks_verdict, over}
use Rattle.map_tracks.proofs.Split.{Sized}
use Rattle.map_tracks.proofs.Split as split
use Rattle.map_items.specs.Judge.{and_then, judge_items, verdict_of}
use Rattle.map_items.proofs.Anywhere.{verdict_bytes}
use Rattle.map_items.specs.declared.Section.TheVariants as section
use Rattle.map.specs.Map.{after_material, layout_of, material_in, tracks_in, both_verdict, sections_verdict, map_verdict}
use Rattle.plate.specs.Part.{part}
use Rattle.map.specs.Parts.{opened, parts_of}
use Rattle.map.specs.Encode.{TrackParts, MapParts, described, padding, section_bytes, packet_length, front, packet_of, encode}
use Rattle.map.specs.declared.Layout.TheVariants.{Both}
use mathlib.Core.Bool.{true}

-- padding makes a multiple of 4, and is under 4
pub padded : (n : ℕ) → (n + padding n) % 4 ≡ 0
unfolding padding
padded n = omega arith

pub padding_under : (n : ℕ) → padding n < 4
unfolding padding
padding_under n = omega arith

-- header and preamble take 18 bytes, and so on
pub front_length : (len : ℕ) (spare : List ℕ) (second : ℕ) → length spare ≡ 4 → length (front len spare second) ≡ 18
unfolding front
front_length len spare second h =
    omega (arith, length-append (be_bytes 4 len) (spare ++ (0xE1 ∷ 0xE2 ∷ 0xE0 ∷ second ∷ [])), length-append spare (0xE1 ∷ 0xE2 ∷ 0xE0 ∷ second ∷ []), length-be_bytes 4 len)

pub sections_length : (m t : List ℕ) → length (section_bytes m t) ≡ 4 + length m + length t
unfolding section_bytes
sections_length m t =
    omega (
      arith,
      length-append (be_bytes 2 (length m)) (m ++ (be_bytes 2 (length t) ++ t)),
      length-append m (be_bytes 2 (length t) ++ t),
      length-append (be_bytes 2 (length t)) t,
      length-be_bytes 2 (length m),
      length-be_bytes 2 (length t),
    )

module _ (spare : List ℕ) (second : ℕ) (m t : List ℕ) (four : length spare ≡ 4) where
  pub packet_length_lem : length (packet_of spare second m t) ≡ packet_length m t
  unfolding packet_of packet_length
  packet_length_lem =
      let z : List ℕ = replicate (padding (22 + length m + length t)) 0 in
      let f = front (22 + length m + length t + padding (22 + length m + length t)) spare second in
      omega (
        arith,
        length-append f (section_bytes m t ++ z),
        length-append (section_bytes m t) z,
        front_length (22 + length m + length t + padding (22 + length m + length t)) spare second four,
        sections_length m t,
        length-replicate {A = ℕ} (padding (22 + length m + length t)) 0,
      )

  abbrev a : List ℕ
  a = front (packet_length m t) spare second

  abbrev z : List ℕ
  z = replicate (padding (22 + length m + length t)) 0

  abbrev p : List ℕ
  p = packet_of spare second m t

  -- the packet cut before the first length word, the material section, the second length word and the track section
  cut_1 : p ≡ a ++ (be_bytes 2 (length m) ++ (m ++ (be_bytes 2 (length t) ++ (t ++ z))))
  unfolding packet_of section_bytes
  cut_1 = simp append_assoc

  cut_2 : p ≡ a ++ be_bytes 2 (length m) ++ (m ++ (be_bytes 2 (length t) ++ (t ++ z)))
  cut_2 = cut_1 ∙ simp append_assoc

  cut_3 : p ≡ a ++ be_bytes 2 (length m) ++ m ++ (be_bytes 2 (length t) ++ (t ++ z))
  cut_3 = cut_1 ∙ simp append_assoc

  cut_4 : p ≡ a ++ be_bytes 2 (length m) ++ m ++ be_bytes 2 (length t) ++ (t ++ z)
  cut_4 = cut_1 ∙ simp append_assoc

  size_1 : length a ≡ 18
  size_1 = front_length (packet_length m t) spare second four

  size_2 : length (a ++ be_bytes 2 (length m)) ≡ 20
  size_2 = omega (arith, length-append a (be_bytes 2 (length m)), length-be_bytes 2 (length m), size_1)

  size_3 : length (a ++ be_bytes 2 (length m) ++ m) ≡ 20 + length m
  size_3 = omega (arith, length-append (a ++ be_bytes 2 (length m)) m, size_2)

  size_4 : length (a ++ be_bytes 2 (length m) ++ m ++ be_bytes 2 (length t)) ≡ 22 + length m
  size_4 = omega (arith, length-append (a ++ be_bytes 2 (length m) ++ m) (be_bytes 2 (length t)), length-be_bytes 2 (length t), size_3)

  module _ (mf : length m < 65536) (tf : length t < 65536) where
    first_word : be p 18 2 ≡ length m
    first_word = rw (cut_1, ← size_1) (be_back a 2 (length m) (m ++ (be_bytes 2 (length t) ++ (t ++ z))) mf)

    second_word : be p (20 + length m) 2 ≡ length t
    second_word = rw (cut_3, ← size_3) (be_back (a ++ be_bytes 2 (length m) ++ m) 2 (length t) (t ++ z) tf)

    pub layout_encoded : layout_of p ≡ Both (20 + length m) (22 + length m + length t)
    unfolding layout_of after_material packet_length
    layout_encoded =
        let l = packet_length_lem in
        let e : 20 + length m + 2 + length t ≡ 22 + length m + length t = omega arith in
        rw (
          first_word,
          second_word,
          e,
          le-ltb (length p) 20 (omega arith),
          le-ltb (length p - 20) (length m) (omega arith),
          le-ltb (length p - (20 + length m)) 2 (omega arith),
          le-ltb (length p - (20 + length m) - 2) (length t) (omega arith),
        )

    pub material_encoded : material_in p (layout_of p) ≡ m
    material_encoded = rw (layout_encoded, add-sub_cancel_left, cut_2, drop_at (a ++ be_bytes 2 (length m)) (m ++ (be_bytes 2 (length t) ++ (t ++ z))) 20 size_2) (take-append_seam m (be_bytes 2 (length t) ++ (t ++ z)))

    pub tracks_encoded : tracks_in p (layout_of p) ≡ t
    tracks_encoded =
        let e : 20 + length m + 2 ≡ 22 + length m = omega arith in
        rw (layout_encoded, e, add-sub_cancel_left, cut_4, drop_at (a ++ be_bytes 2 (length m) ++ m ++ be_bytes 2 (length t)) (t ++ z) (22 + length m) size_4) (take-append_seam t z)

    abbrev six : List ℕ
    six = 0 ∷ 0 ∷ 0 ∷ 0 ∷ 1 ∷ 0xBC ∷ []

    abbrev behind : List ℕ
    behind = 0xE0 ∷ second ∷ (section_bytes m t ++ z)

    cut_5 : p ≡ six ++ (be_bytes 4 (packet_length m t) ++ (spare ++ (0xE1 ∷ 0xE2 ∷ behind)))
    unfolding packet_of front
    cut_5 = simp append_assoc

    cut_6 : p ≡ six ++ be_bytes 4 (packet_length m t) ++ spare ++ (0xE1 ∷ 0xE2 ∷ behind)
    cut_6 = cut_5 ∙ simp append_assoc

    size_6 : length (six ++ be_bytes 4 (packet_length m t) ++ spare) ≡ 14
    size_6 = omega (arith, length-append (six ++ be_bytes 4 (packet_length m t)) spare, length-append six (be_bytes 4 (packet_length m t)), length-be_bytes 4 (packet_length m t), four)

    long : (packet_length m t < 256 ^ 4) × (16 ≤ packet_length m t) × (packet_length m t % 4 ≡ 0) × (18 ≤ packet_length m t)
    unfolding packet_length
    long = (omega (arith, padding_under (22 + length m + length t)), omega arith, padded (22 + length m + length t), omega arith)

    length_word : be p 6 4 ≡ packet_length m t
    length_word = rw cut_5 (be_back six 4 (packet_length m t) (spare ++ (0xE1 ∷ 0xE2 ∷ behind)) long.0)

    mark : (r : List ℕ) → be (0xE1 ∷ 0xE2 ∷ r) 0 2 ≡ 0xE1E2
    unfolding be
    mark r = refl

    trailer : be p 14 2 ≡ 0xE1E2
    trailer =
        let x = six ++ be_bytes 4 (packet_length m t) ++ spare in
        rw (cut_6, ← size_6) (rw add-zero at (be-after x (0xE1 ∷ 0xE2 ∷ behind) 0 2) ∙ mark behind)

    leader : be p 0 5 ≡ 1
    unfolding be packet_of front
    leader = refl

    kinds : get_or p 5 0 ≡ 0xBC
    unfolding packet_of front
    kinds = refl

    pub header_encoded : header_at p 0 ≡ Ok (record { packet_type = 0xBC; len = packet_length m t })
    header_encoded =
        accepts p 0 (packet_length m t) leader trailer length_word long.1 long.2 (omega (arith, packet_length_lem))
        ∙ ap (λ (k : ℕ). Ok (record { packet_type = k; len = packet_length m t })) kinds

    -- the reserved bytes and the version byte
    cut_7 : p ≡ six ++ be_bytes 4 (packet_length m t) ++ (spare ++ (0xE1 ∷ 0xE2 ∷ behind))
    cut_7 = cut_5 ∙ simp append_assoc

    size_7 : length (six ++ be_bytes 4 (packet_length m t)) ≡ 10
    size_7 = omega (arith, length-append six (be_bytes 4 (packet_length m t)), length-be_bytes 4 (packet_length m t))

    pub spare_encoded : take 4 (drop 10 p) ≡ spare
    spare_encoded =
        rw (cut_7, drop_at (six ++ be_bytes 4 (packet_length m t)) (spare ++ (0xE1 ∷ 0xE2 ∷ behind)) 10 size_7) (take_at spare (0xE1 ∷ 0xE2 ∷ behind) 4 four)

    cut_8 : p ≡ six ++ be_bytes 4 (packet_length m t) ++ spare ++ (0xE1 ∷ 0xE2 ∷ []) ++ behind
    cut_8 = cut_5 ∙ simp append_assoc

    size_8 : length (six ++ be_bytes 4 (packet_length m t) ++ spare ++ (0xE1 ∷ 0xE2 ∷ [])) ≡ 16
    size_8 = omega (arith, length-append (six ++ be_bytes 4 (packet_length m t) ++ spare) (0xE1 ∷ 0xE2 ∷ []), size_6)

    pub version_encoded : get_or p 16 0 ≡ 0xE0
    version_encoded = rw cut_8 (get_or_at (six ++ be_bytes 4 (packet_length m t) ++ spare ++ (0xE1 ∷ 0xE2 ∷ [])) 0xE0 (second ∷ (section_bytes m t ++ z)) 0 16 size_8)

    cut_9 : p ≡ six ++ be_bytes 4 (packet_length m t) ++ spare ++ (0xE1 ∷ 0xE2 ∷ 0xE0 ∷ []) ++ (second ∷ (section_bytes m t ++ z))
    cut_9 = cut_5 ∙ simp append_assoc

    size_9 : length (six ++ be_bytes 4 (packet_length m t) ++ spare ++ (0xE1 ∷ 0xE2 ∷ 0xE0 ∷ [])) ≡ 17
    size_9 = omega (arith, length-append (six ++ be_bytes 4 (packet_length m t) ++ spare) (0xE1 ∷ 0xE2 ∷ 0xE0 ∷ []), size_6)

    pub second_encoded : get_or p 17 0 ≡ second
    second_encoded = rw cut_9 (get_or_at (six ++ be_bytes 4 (packet_length m t) ++ spare ++ (0xE1 ∷ 0xE2 ∷ 0xE0 ∷ [])) second (section_bytes m t ++ z) 0 17 size_9)

    -- the walk over it is the walk over its two sections
    pub verdict_encoded : map_verdict p ≡ and_then (verdict_of section.Material m 20) (tracks_verdict t (22 + length m))
    unfolding map_verdict sections_verdict both_verdict
    verdict_encoded =
        let a : part 20 (20 + length m) p ≡ m = rw layout_encoded at material_encoded in
        let b : part (20 + length m + 2) (22 + length m + length t) p ≡ t = rw layout_encoded at tracks_encoded in
        let e : 20 + length m + 2 ≡ 22 + length m = omega arith in
        let l = packet_length_lem in
        let k : 18 ≤ length p = rw l long.3 in
        rw (le-ltb (length p) 18 k, version_encoded, layout_encoded, a, b, e)

-- a map of items and tracks, each of whose parts fits its length word, comes apart into them
pub record Fit (p : MapParts) : Type 0 where
  pub four : length p.spare ≡ 4
  pub material : length (items_bytes p.material) < 65536
  pub tracks : length (tracks.descriptions_bytes (map described p.tracks)) < 65536
  pub each : Sized (map described p.tracks)

module _ (p : MapParts) (f : Fit p) where
  pub header_of_encoded : header_at (encode p) 0 ≡ Ok (record { packet_type = 0xBC; len = length (encode p) })
  unfolding encode
  header_of_encoded =
      header_encoded p.spare p.second (items_bytes p.material) (tracks.descriptions_bytes (map described p.tracks)) f.four f.material f.tracks
      ∙ ap (λ (n : ℕ). Ok (record { packet_type = 0xBC; len = n })) (sym (packet_length_lem p.spare p.second (items_bytes p.material) (tracks.descriptions_bytes (map described p.tracks)) f.four))

  pub material_of_encoded : section_of (material_in (encode p) (layout_of (encode p))) ≡ record { list = p.material; end = true }
  unfolding encode
  material_of_encoded =
      rw (material_encoded p.spare p.second (items_bytes p.material) (tracks.descriptions_bytes (map described p.tracks)) f.four f.material f.tracks) (items.section_bytes_lem p.material)

  pub tracks_of_encoded : tracks_of (tracks_in (encode p) (layout_of (encode p))) ≡ record { list = map described p.tracks; end = over }
  unfolding encode
  tracks_of_encoded =
      rw (tracks_encoded p.spare p.second (items_bytes p.material) (tracks.descriptions_bytes (map described p.tracks)) f.four f.material f.tracks)
      (split.section_bytes_lem (map described p.tracks) f.each)

-- and each track into its items
pub items_of_described : (t : TrackParts) → section_of (described t).items ≡ record { list = t.items; end = true }
unfolding described
items_of_described t = items.section_bytes_lem t.items

-- a map that was put together has the parts that it was put together from
pub opened_described : (ts : List TrackParts) → map opened (map described ts) ≡ ts
unfolding opened described
opened_described [] = refl
opened_described (t ∷ ts) = rw (items.section_bytes_lem t.items, opened_described ts)

module _ (p : MapParts) (f : Fit p) where
  spare_of_encoded : take 4 (drop 10 (encode p)) ≡ p.spare
  unfolding encode
  spare_of_encoded = spare_encoded p.spare p.second (items_bytes p.material) (tracks.descriptions_bytes (map described p.tracks)) f.four f.material f.tracks

  second_of_encoded : get_or (encode p) 17 0 ≡ p.second
  unfolding encode
  second_of_encoded = second_encoded p.spare p.second (items_bytes p.material) (tracks.descriptions_bytes (map described p.tracks)) f.four f.material f.tracks

  pub parts_of_encoded : parts_of (encode p) ≡ p
  unfolding parts_of
  parts_of_encoded = rw (material_of_encoded p f, tracks_of_encoded p f, opened_described p.tracks, spare_of_encoded, second_of_encoded)

  -- and it is judged as they are
  pub verdict_of_encoded : map_verdict (encode p)
      ≡ and_then (and_then (judge_items section.Material [] 20 p.material) (Ok tt)) (judge_tracks [] (22 + length (items_bytes p.material)) (map described p.tracks) over)
  unfolding encode tracks_verdict
  verdict_of_encoded =
      verdict_encoded p.spare p.second (items_bytes p.material) (tracks.descriptions_bytes (map described p.tracks)) f.four f.material f.tracks
      ∙ rw (verdict_bytes section.Material p.material 20, split.section_bytes_lem (map described p.tracks) f.each)
