-- A track section's split at a place, and the split of what was put together.
use Prim.Native.Nat.{ℕ, zero, suc, ◌+◌, ◌-◌, ◌*◌, ◌/◌, ◌%◌, ◌<◌, ◌≤◌}
use mathlib.Core.Path.{◌≡◌, refl, sym, ◌∙◌}
use mathlib.Core.List.{List, [], ◌∷◌, ◌++◌}
use native.Mathlib.Omega.{arith}
use native.Mathlib.Nat.{add-zero}
use lib.ListN.{length, get_or, take, drop, drop_of_length-le, length-drop, length-append, take-append-drop}
use lib.Seq.{drop-cons, drop-drop, length-take-le, take-append_seam, drop-append_seam}
use lib.Dec.{leb}
use borrow.Author.Tests.{le-leb, lt-leb, leb-true}
use Rattle.plate.specs.Choice.{pick}
use Rattle.plate.specs.Ended.{none, in_front}
use Rattle.number.specs.Number.{be, be_bytes}
use Rattle.number.proofs.Laws.{length-be_bytes}
use Rattle.number.proofs.Bytes.{AllBytes, bytes_drop}
use Rattle.map_tracks.specs.Tracks.{Description, over, short, hangs, split_tracks, descriptions_bytes, tracks_of}
use Rattle.map_tracks.specs.Inside.{descriptions_size}
use mathlib.Core.Bool.{Bool, true, false}

-- the track at a place
abbrev pub track_at : List ℕ → ℕ → ℕ → Description
track_at s at n = record { type_byte = get_or s at 0; id = get_or s (at + 1) 0; items = take n (drop (at + 4) s) }

-- its items have the bytes that were asked for
pub items_length : (s : List ℕ) (at n : ℕ) → n ≤ length s - at - 4 → length (take n (drop (at + 4) s)) ≡ n
items_length s at n h = length-take-le n (drop (at + 4) s) (simp length-drop (omega arith))

-- two bytes
pub be-two : (s : List ℕ) (at : ℕ) → be s at 2 ≡ get_or s at 0 * 256 + get_or s (at + 1) 0
unfolding be
be-two s at = rw add-zero (omega arith)

module _ (s : List ℕ) (at f : ℕ) (h : zero < f) where
  pub split_done : length s ≤ at → split_tracks f (drop at s) ≡ none over
  unfolding split_tracks
  split_done e = rw (drop_of_length-le s e) (go f h)
    where
      go : (f : ℕ) → zero < f → split_tracks f [] ≡ none over
      go zero h = absurd (omega arith)
      go (suc f) h = refl

  pub split_short : at < length s → length s - at < 4 → split_tracks f (drop at s) ≡ none short
  unfolding split_tracks
  split_short l k = go (drop at s) f h (simp length-drop (omega arith)) (simp length-drop (omega arith))
    where
      go : (r : List ℕ) (f : ℕ) → zero < f → zero < length r → length r < 4 → split_tracks f r ≡ none short
      go r zero h a b = absurd (omega arith)
      go [] (suc f) h a b = absurd (omega arith)
      go (k ∷ []) (suc f) h a b = refl
      go (k ∷ i ∷ []) (suc f) h a b = refl
      go (k ∷ i ∷ m ∷ []) (suc f) h a b = refl
      go (k ∷ i ∷ m ∷ n ∷ r) (suc f) h a b = absurd (omega arith)

  module _ (n : ℕ) (l : 4 ≤ length s - at) (e : n ≡ be s (at + 2) 2) where
    split_four : split_tracks f (drop at s) ≡ pick (leb n (length s - (at + 4))) (in_front (track_at s at n) (split_tracks (f - 1) (drop (at + 4 + n) s))) (none (hangs (get_or s at 0) (get_or s (at + 1) 0)))
    unfolding split_tracks
    split_four =
        rw (drop-cons s at 0 (omega arith), drop-cons s (suc at) 0 (omega arith), drop-cons s (suc (suc at)) 0 (omega arith), drop-cons s (suc (suc (suc at))) 0 (omega arith)) (go f h)
      where
        go : (f : ℕ) → zero < f
            → split_tracks f (get_or s at 0 ∷ get_or s (suc at) 0 ∷ get_or s (suc (suc at)) 0 ∷ get_or s (suc (suc (suc at))) 0 ∷ drop (suc (suc (suc (suc at)))) s)
            ≡ pick (leb n (length s - (at + 4))) (in_front (track_at s at n) (split_tracks (f - 1) (drop (at + 4 + n) s))) (none (hangs (get_or s at 0) (get_or s (at + 1) 0)))
        go zero h = absurd (omega arith)
        go (suc f) h =
            let a : suc f - 1 ≡ f = omega arith in
            let b : suc (suc (suc (suc at))) ≡ at + 4 = omega arith in
            let d : suc (suc (suc at)) ≡ at + 2 + 1 = omega arith in
            let g : suc (suc at) ≡ at + 2 = omega arith in
            let j : suc at ≡ at + 1 = omega arith in
            let w : get_or s (at + 2) 0 * 256 + get_or s (at + 2 + 1) 0 ≡ n = sym (e ∙ be-two s (at + 2)) in
            rw (a, b, d, g, j, w, drop-drop) (simp length-drop)

    pub split_over : length s - at - 4 < n → split_tracks f (drop at s) ≡ none (hangs (get_or s at 0) (get_or s (at + 1) 0))
    split_over k = split_four ∙ rw (lt-leb n (length s - (at + 4)) (omega arith))

    pub split_track : n ≤ length s - at - 4 → split_tracks f (drop at s) ≡ in_front (track_at s at n) (split_tracks (f - 1) (drop (at + 4 + n) s))
    split_track k = split_four ∙ rw (le-leb n (length s - (at + 4)) (omega arith))

-- the tracks of a section take no more bytes than it has
split_size : (f : ℕ) (s : List ℕ) → descriptions_size (split_tracks f s).list ≤ length s
unfolding split_tracks descriptions_size
split_size zero s = omega arith
split_size (suc f) [] = omega arith
split_size (suc f) (k ∷ []) = omega arith
split_size (suc f) (k ∷ i ∷ []) = omega arith
split_size (suc f) (k ∷ i ∷ h ∷ []) = omega arith
split_size (suc f) (k ∷ i ∷ h ∷ l ∷ s) = go (leb (h * 256 + l) (length s)) refl (split_size f (drop (h * 256 + l) s))
  where
    go : (b : Bool) → leb (h * 256 + l) (length s) ≡ b → descriptions_size (split_tracks f (drop (h * 256 + l) s)).list ≤ length (drop (h * 256 + l) s)
        → descriptions_size (pick b (in_front (record { type_byte = k; id = i; items = take (h * 256 + l) s }) (split_tracks f (drop (h * 256 + l) s))) (none (hangs k i))).list
        ≤ length (k ∷ i ∷ h ∷ l ∷ s)
    go true q r = omega (arith, length-take-le (h * 256 + l) s (leb-true _ _ q), length-drop (h * 256 + l) s, leb-true)
    go false q r = omega arith

pub section_size_lem : (s : List ℕ) → descriptions_size (tracks_of s).list ≤ length s
unfolding tracks_of
section_size_lem s = split_size (suc (length s)) s

-- tracks put together come apart as they were, where each one's items are under 65,536 bytes
abbrev pub Sized : List Description → Type 0
Sized [] = Unit {0}
Sized (d ∷ ds) = (length d.items < 65536) × Sized ds

two_bytes : (v : ℕ) (s : List ℕ) → be_bytes 2 v ++ s ≡ v / 256 % 256 ∷ v % 256 ∷ s
unfolding be_bytes
two_bytes v s = refl

split_bytes : (ds : List Description) → Sized ds → (f : ℕ) → length (descriptions_bytes ds) < f → split_tracks f (descriptions_bytes ds) ≡ record { list = ds; end = over }
unfolding split_tracks descriptions_bytes
split_bytes ds z zero h = absurd (omega arith)
split_bytes [] z (suc f) h = refl
split_bytes (d ∷ ds) z (suc f) h =
    let v = d.items in
    let n = length v in
    let r = descriptions_bytes ds in
    let e : n / 256 % 256 * 256 + n % 256 ≡ n = omega (arith, z.0) in
    let k : length r < f = omega (arith, length-append (be_bytes 2 n) (v ++ r), length-append v r) in
    rw (two_bytes n (v ++ r), e, le-leb n (length (v ++ r)) (simp length-append (omega arith)), take-append_seam v r, drop-append_seam v r, split_bytes ds z.1 f k)

pub section_bytes_lem : (ds : List Description) → Sized ds → tracks_of (descriptions_bytes ds) ≡ record { list = ds; end = over }
unfolding tracks_of
section_bytes_lem ds z = split_bytes ds z (suc (length (descriptions_bytes ds))) (omega arith)

-- a section that ends where a track ends is the bytes of its tracks
bytes_split : (f : ℕ) (s : List ℕ) → AllBytes s → length s < f → (split_tracks f s).end ≡ over → descriptions_bytes (split_tracks f s).list ≡ s
unfolding split_tracks descriptions_bytes
bytes_split zero s b h e = absurd (omega arith)
bytes_split (suc f) [] b h e = refl
bytes_split (suc f) (k ∷ []) b h e = absurd (let z : ◌≡◌ {A = ℕ} 0 1 = cc in omega arith)
bytes_split (suc f) (k ∷ i ∷ []) b h e = absurd (let z : ◌≡◌ {A = ℕ} 0 1 = cc in omega arith)
bytes_split (suc f) (k ∷ i ∷ m ∷ []) b h e = absurd (let z : ◌≡◌ {A = ℕ} 0 1 = cc in omega arith)
bytes_split (suc f) (k ∷ i ∷ m ∷ l ∷ s) b h e =
    go (leb (m * 256 + l) (length s)) refl
    (λ v. bytes_split f (drop (m * 256 + l) s) (bytes_drop (m * 256 + l) s b.1.1.1.1) (simp length-drop (omega arith)) v) e
  where
    n : ℕ
    n = m * 256 + l

    d : Description
    d = record { type_byte = k; id = i; items = take n s }

    go : (t : Bool) → leb n (length s) ≡ t → ((split_tracks f (drop n s)).end ≡ over → descriptions_bytes (split_tracks f (drop n s)).list ≡ drop n s)
        → (pick t (in_front d (split_tracks f (drop n s))) (none (hangs k i))).end ≡ over
        → descriptions_bytes (pick t (in_front d (split_tracks f (drop n s))) (none (hangs k i))).list ≡ k ∷ i ∷ m ∷ l ∷ s
    go true q rest w =
        let r = descriptions_bytes (split_tracks f (drop n s)).list in
        let x : n / 256 % 256 ≡ m = omega (arith, b.1.1.0, b.1.1.1.0) in
        let y : n % 256 ≡ l = omega (arith, b.1.1.1.0) in
        rw (length-take-le n s (leb-true _ _ q), two_bytes n (take n s ++ r), x, y, rest w, take-append-drop)
    go false q rest w = absurd (let z : ◌≡◌ {A = ℕ} 0 1 = cc in omega arith)

pub section_whole : (s : List ℕ) → AllBytes s → (tracks_of s).end ≡ over → descriptions_bytes (tracks_of s).list ≡ s
unfolding tracks_of
section_whole s b e = bytes_split (suc (length s)) s b (omega arith) e

-- the bytes that some tracks are take what they take
pub length-bytes : (ds : List Description) → length (descriptions_bytes ds) ≡ descriptions_size ds
unfolding descriptions_bytes descriptions_size
length-bytes [] = refl
length-bytes (d ∷ ds) =
    let v = d.items in
    omega (arith, length-append (be_bytes 2 (length v)) (v ++ descriptions_bytes ds), length-append v (descriptions_bytes ds), length-be_bytes 2 (length v), length-bytes ds)

-- the items of a track are no longer than its section
pub sized : (ds : List Description) → descriptions_size ds < 65536 → Sized ds
unfolding descriptions_size
sized [] h = tt
sized (d ∷ ds) h = (omega arith, sized ds (omega arith))
