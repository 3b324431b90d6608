-- An accepted map with the fewest zeros is its parts put together, so no two such maps have the same parts.
use Prim.Native.Nat.{ℕ, zero, suc, ◌+◌, ◌-◌, ◌*◌, ◌/◌, ◌%◌, ◌<◌, ◌≤◌}
use mathlib.Core.Path.{◌≡◌, refl, sym, ◌∙◌, ap}
use mathlib.Core.Bool.{Bool, true, false}
use mathlib.Core.List.{List, [], ◌∷◌, ◌++◌, append_assoc}
use native.Mathlib.Omega.{arith}
use lib.ListN.{length, get_or, take, drop, replicate, length-drop, take-append-drop}
use lib.Seq.{take-suc, drop-cons, drop-drop, get_or-drop, length-take-le}
use lib.Dec.{ltb}
use Rattle.plate.specs.Choice.{pick}
use Rattle.number.specs.Number.{be, be_bytes}
use Rattle.packet.proofs.Laws as packet
use Rattle.map.specs.Map.{after_material, layout_of}
use Rattle.plate.specs.Part.{part}
use Rattle.map.specs.Encode.{padding, section_bytes, packet_length, front, packet_of, encode}
use Rattle.map.specs.Parts.{parts_of}
use Rattle.map.specs.declared.Layout.{Layout}
use Rattle.map.specs.declared.Layout.TheVariants.{Both, One, Neither}
use Rattle.map.proofs.Laws.{both_within}
use Rattle.map.proofs.Parts.{accepted_sections}
use Rattle.map_newer.specs.Demand.{Bytes, Accepted, Padded}
use Rattle.map_newer.proofs.Parts.{accepted_verdict, accepted_header, section_material, section_tracks}

-- bytes are those of the number that they are
word : (s : List ℕ) → Bytes s → (at n : ℕ) → at + n ≤ length s → take n (drop at s) ≡ be_bytes n (be s at n)
unfolding be be_bytes
word s b at zero h = refl
word s b at (suc n) h =
    let k : get_or s (at + n) 0 < 256 = b (at + n) in
    let q : (be s at n * 256 + get_or s (at + n) 0) / 256 ≡ be s at n = omega arith in
    let r : (be s at n * 256 + get_or s (at + n) 0) % 256 ≡ get_or s (at + n) 0 = omega arith in
    take-suc (drop at s) n 0 (omega (arith, length-drop at s)) ∙ rw (get_or-drop at s n 0, word s b at n (omega arith), q, r)

-- from a place on: so many bytes, and the rest
cut : (s : List ℕ) (at n : ℕ) → drop at s ≡ take n (drop at s) ++ drop (at + n) s
cut s at n = sym (take-append-drop n (drop at s)) ∙ ap (λ (r : List ℕ). take n (drop at s) ++ r) (drop-drop n at s)

number : (s : List ℕ) → Bytes s → (at n v : ℕ) → at + n ≤ length s → be s at n ≡ v → drop at s ≡ be_bytes n v ++ drop (at + n) s
number s b at n v h e = cut s at n ∙ ap (λ (r : List ℕ). r ++ drop (at + n) s) (word s b at n h ∙ ap (be_bytes n) e)

and_then : (x : List ℕ) {p q r : List ℕ} → p ≡ x ++ q → q ≡ r → p ≡ x ++ r
and_then x a b = a ∙ ap (λ (s : List ℕ). x ++ s) b

-- the two length words, where there are both sections
abbrev Words : List ℕ → Layout → Type 0
Words m (Both a e) = (a ≡ 20 + be m 18 2) × (e ≡ a + 2 + be m a 2)
Words m (One a) = Unit {0}
Words m Neither = Unit {0}

words : (m : List ℕ) → Words m (layout_of m)
unfolding layout_of after_material
words m = go (ltb (length m) 20) (ltb (length m - 20) (be m 18 2)) (ltb (length m - (20 + be m 18 2)) 2) (ltb (length m - (20 + be m 18 2) - 2) (be m (20 + be m 18 2) 2))
  where
    c : ℕ
    c = 20 + be m 18 2

    go : (x y z w : Bool) → Words m (pick x Neither (pick y Neither (pick z (One c) (pick w (One c) (Both c (c + 2 + be m c 2))))))
    go true y z w = tt
    go false true z w = tt
    go false false true w = tt
    go false false false true = tt
    go false false false false = (refl, refl)

-- the padding is as many bytes as are behind e
as_padding : (n e : ℕ) → n % 4 ≡ 0 → e ≤ n → n < e + 4 → padding e ≡ n - e
unfolding padding
as_padding n e f h k = omega arith

-- a packet as one row of pieces
joined : (len : ℕ) (spare : List ℕ) (second : ℕ) (m t z : List ℕ)
    → front len spare second ++ (section_bytes m t ++ z)
    ≡ 0 ∷ 0 ∷ 0 ∷ 0 ∷ 1 ∷ 0xBC ∷ (be_bytes 4 len ++ (spare ++ (0xE1 ∷ 0xE2 ∷ 0xE0 ∷ second ∷ (be_bytes 2 (length m) ++ (m ++ (be_bytes 2 (length t) ++ (t ++ z)))))))
unfolding front section_bytes
joined len spare second m t z = simp append_assoc

module _ (m : List ℕ) (h : Accepted m) (a e : ℕ) (l : layout_of m ≡ Both a e) (few : length m < e + 4) (zeros : drop e m ≡ replicate (length m - e) 0) where
  at_words : Words m (Both a e)
  at_words = rw l at (words m)

  header : packet.Good m 0 (record { packet_type = 0xBC; len = length m })
  header = packet.whole m 0 (record { packet_type = 0xBC; len = length m }) (accepted_header m h)

  inside : (20 ≤ a) × (a + 2 ≤ e) × (e ≤ length m)
  inside = both_within m a e l

  material_long : length (part 20 a m) ≡ be m 18 2
  material_long = let w = inside in length-take-le (a - 20) (drop 20 m) (omega (arith, length-drop 20 m)) ∙ omega (arith, at_words.0)

  tracks_long : length (part (a + 2) e m) ≡ be m a 2
  tracks_long = let w = inside in length-take-le (e - (a + 2)) (drop (a + 2) m) (omega (arith, length-drop (a + 2) m)) ∙ omega (arith, at_words.1)

  -- behind the preamble
  sections : drop 18 m ≡ be_bytes 2 (length (part 20 a m)) ++ (part 20 a m ++ (be_bytes 2 (length (part (a + 2) e m)) ++ (part (a + 2) e m ++ replicate (length m - e) 0)))
  sections =
      let w = inside in
      let i : 20 + (a - 20) ≡ a = omega arith in
      let j : a + 2 + (e - (a + 2)) ≡ e = omega arith in
      and_then (be_bytes 2 (length (part 20 a m))) (number m h.bytes 18 2 (length (part 20 a m)) (omega arith) (sym material_long))
      (and_then (part 20 a m) (rw i at (cut m 20 (a - 20)))
      (and_then (be_bytes 2 (length (part (a + 2) e m))) (number m h.bytes a 2 (length (part (a + 2) e m)) (omega arith) (sym tracks_long))
      (and_then (part (a + 2) e m) (rw j at (cut m (a + 2) (e - (a + 2)))) zeros)))

  byte : (at v : ℕ) → at < length m → get_or m at 0 ≡ v → drop at m ≡ v ∷ drop (suc at) m
  byte at v k q = drop-cons m at 0 k ∙ ap (λ (x : ℕ). x ∷ drop (suc at) m) q

  one : be_bytes 5 1 ≡ 0 ∷ 0 ∷ 0 ∷ 0 ∷ 1 ∷ []
  unfolding be_bytes
  one = refl

  mark : be_bytes 2 0xE1E2 ≡ 0xE1 ∷ 0xE2 ∷ []
  unfolding be_bytes
  mark = refl

  in_pieces : m ≡ 0 ∷ 0 ∷ 0 ∷ 0 ∷ 1 ∷ 0xBC ∷ (be_bytes 4 (length m) ++ (take 4 (drop 10 m) ++ (0xE1 ∷ 0xE2 ∷ 0xE0 ∷ get_or m 17 0 ∷ drop 18 m)))
  in_pieces =
      let w = inside in
      and_then (0 ∷ 0 ∷ 0 ∷ 0 ∷ 1 ∷ []) (rw one at (number m h.bytes 0 5 1 (omega arith) header.leader))
      (and_then (0xBC ∷ []) (byte 5 0xBC (omega arith) (sym header.kinds))
      (and_then (be_bytes 4 (length m)) (number m h.bytes 6 4 (length m) (omega arith) h.alone)
      (and_then (take 4 (drop 10 m)) (cut m 10 4)
      (and_then (0xE1 ∷ 0xE2 ∷ []) (rw mark at (number m h.bytes 14 2 0xE1E2 (omega arith) header.trailer))
      (and_then (0xE0 ∷ []) (byte 16 0xE0 (omega arith) (accepted_sections m (accepted_verdict m h)).version) (byte 17 (get_or m 17 0) (omega arith) refl))))))

  all_long : (22 + length (part 20 a m) + length (part (a + 2) e m) ≡ e) × (padding e ≡ length m - e)
  all_long = let w = inside in (omega (arith, material_long, tracks_long, at_words.0, at_words.1), as_padding (length m) e header.fours w.2 few)

  length_said : packet_length (part 20 a m) (part (a + 2) e m) ≡ length m
  unfolding packet_length
  length_said = let w = inside in rw (all_long.0, all_long.1) (omega arith)

  from_parts : m ≡ packet_of (take 4 (drop 10 m)) (get_or m 17 0) (part 20 a m) (part (a + 2) e m)
  unfolding packet_of
  from_parts =
      rw (length_said, all_long.0, all_long.1)
      (in_pieces
      ∙ ap (λ (r : List ℕ). 0 ∷ 0 ∷ 0 ∷ 0 ∷ 1 ∷ 0xBC ∷ (be_bytes 4 (length m) ++ (take 4 (drop 10 m) ++ (0xE1 ∷ 0xE2 ∷ 0xE0 ∷ get_or m 17 0 ∷ r)))) sections
      ∙ sym (joined (length m) (take 4 (drop 10 m)) (get_or m 17 0) (part 20 a m) (part (a + 2) e m) (replicate (length m - e) 0)))

module _ (m : List ℕ) (h : Accepted m) where
  reserved : ((parts_of m).spare ≡ take 4 (drop 10 m)) × ((parts_of m).second ≡ get_or m 17 0)
  unfolding parts_of
  reserved = (refl, refl)

  -- a map with the fewest zeros is its parts put together
  pub put_together : Padded m (layout_of m) → m ≡ encode (parts_of m)
  unfolding encode
  put_together = go (layout_of m) refl
    where
      go : (l : Layout) → layout_of m ≡ l → Padded m l → m ≡ encode (parts_of m)
      go (Both a e) q t = rw (reserved.0, reserved.1, section_material m h, section_tracks m h, q) (from_parts m h a e q (let f = t.0 in omega arith) t.1)
      go (One a) q t = absurd t
      go Neither q t = absurd t

pub only_one : (m n : List ℕ) → Accepted m → Accepted n → Padded m (layout_of m) → Padded n (layout_of n) → parts_of m ≡ parts_of n → m ≡ n
only_one m n h k p q e = put_together m h p ∙ ap encode e ∙ sym (put_together n k q)
