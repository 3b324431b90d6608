-- What a packet's answer shows is what its items and tracks say; and the parts of a packet that was put together are those it was put together from.
use Prim.Native.Nat.{ℕ, zero, suc, ◌+◌, ◌-◌, ◌*◌, ◌≤◌}
use mathlib.Core.Path.{◌≡◌, refl, sym, ◌∙◌, ap}
use mathlib.Core.Bool.{Bool, true, false}
use mathlib.Core.List.{List, [], ◌∷◌, ◌++◌, map, append_assoc}
use native.Mathlib.Omega.{arith}
use lib.ListN.{length, take, drop, length-append, take-append-drop}
use lib.Seq.{length-take-le}
use lib.Dec.{leb, eqb}
use Rattle.std.specs.Prelude.{Option, None}
use Rattle.plate.specs.Choice.{pick}
use Rattle.plate.specs.Ended.{none, in_front}
use Rattle.map_items.specs.Items.{Item, section_of, items_size, items_bytes}
use Rattle.map_items.specs.Items as items
use Rattle.map_items.specs.Find.{Found, missing, found, find, part_of, bytes_of}
use Rattle.map_items.proofs.Lookup.{find_stands}
use Rattle.map_items.proofs.Split.{section_front}
use Rattle.map_answer.specs.Answer.{value_of, is_null, shown_bytes, material_of, track_of}
use Rattle.map_tracks.specs.Tracks.{Description, Placed, hangs, split_tracks, tracks_of, is_listed, listed, record_of}
use Rattle.map.specs.Map.{layout_of, material_in, tracks_in, tracks_at, material_says, listed_in}
use Rattle.plate.specs.Part.{part}
use Rattle.map.specs.Encode.{TrackParts, MapParts, described, encode}
use Rattle.map.specs.View.{Held, nothing, bytes, held_at, held_bytes, material_view_in, track_view_in, view_in}
use Rattle.map.specs.Parts.{listed_of, opened, parts_of}
use Rattle.map.specs.Inside.{held_of, shown_of, material_view_of_items, track_view_of_parts, view_of_parts}
use Rattle.map.specs.declared.Layout.{Layout}
use Rattle.map.specs.declared.Layout.TheVariants.{Both, One, Neither}
use Rattle.map.proofs.Laws.{Within, layout_within}
use Rattle.map.proofs.Encoded.{Fit, parts_of_encoded}
use Rattle.map_answer.proofs.Laws.{value_anywhere}

-- a number and a null name are told by the bytes, wherever they stand
value_held : Held → Option ℕ
value_held nothing = None
value_held (bytes n v) = value_of (found 0 v)

value_held_lem : (x : Found) → value_of x ≡ value_held (held_of x)
unfolding value_of held_of value_held
value_held_lem missing = refl
value_held_lem (found p v) = refl

null_held : Held → Bool
null_held nothing = false
null_held (bytes n v) = eqb n 1

null_held_lem : (x : Found) → is_null (part_of x) ≡ null_held (held_of x)
unfolding is_null held_of null_held
null_held_lem missing = refl
null_held_lem (found p v) = refl

-- an item is found wherever the items stand
pub held_anywhere : (tag q r : ℕ) (is : List Item) → held_of (find tag q is) ≡ held_of (find tag r is)
unfolding find held_of
held_anywhere tag q r [] = refl
held_anywhere tag q r (i ∷ is) = go (eqb i.tag tag) (held_anywhere tag (q + 2 + length i.value) (r + 2 + length i.value) is)
  where
    go : (b : Bool) → held_of (find tag (q + 2 + length i.value) is) ≡ held_of (find tag (r + 2 + length i.value) is)
        → held_of (pick b (found (q + 2) i.value) (find tag (q + 2 + length i.value) is))
        ≡ held_of (pick b (found (r + 2) i.value) (find tag (r + 2 + length i.value) is))
    go true e = refl
    go false e = e

-- two findings that hold the same have the same number, and are null names both or neither
pub same_value : (x y : Found) → held_of x ≡ held_of y → value_of x ≡ value_of y
same_value x y e = value_held_lem x ∙ ap value_held e ∙ sym (value_held_lem y)

pub same_null : (x y : Found) → held_of x ≡ held_of y → is_null (part_of x) ≡ is_null (part_of y)
same_null x y e = null_held_lem x ∙ ap null_held e ∙ sym (null_held_lem y)

-- the items stand in the packet p from place q on
module _ (p : List ℕ) (q : ℕ) (is : List Item) (pre post : List ℕ) (l : length pre ≡ q) (h : p ≡ pre ++ (items_bytes is ++ post)) where
  held_there : (tag : ℕ) → held_at p (part_of (find tag q is)) ≡ held_of (find tag 0 is)
  unfolding held_of
  held_there tag = go (find tag q is) refl ∙ held_anywhere tag q 0 is
    where
      go : (x : Found) → find tag q is ≡ x → held_at p (part_of x) ≡ held_of x
      go missing e = refl
      go (found r v) e = rw h (ap (bytes (length v)) (find_stands tag is pre post r v (rw l e)).bytes)

  value_there : (tag : ℕ) → value_of (find tag q is) ≡ value_of (find tag 0 is)
  value_there tag = value_anywhere tag q 0 is

  null_there : is_null (part_of (find 0x4C q is)) ≡ is_null (part_of (find 0x4C 0 is))
  null_there = same_null _ _ (held_anywhere 0x4C q 0 is)

  hidden_there : (tag : ℕ) → held_at p (pick (is_null (part_of (find 0x4C q is))) None (part_of (find tag q is)))
      ≡ pick (is_null (part_of (find 0x4C 0 is))) nothing (held_of (find tag 0 is))
  hidden_there tag = rw null_there (go (is_null (part_of (find 0x4C 0 is))) (held_there tag))
    where
      go : (b : Bool) → held_at p (part_of (find tag q is)) ≡ held_of (find tag 0 is)
          → held_at p (pick b None (part_of (find tag q is))) ≡ pick b nothing (held_of (find tag 0 is))
      go true e = refl
      go false e = e

  shown_there : (tag : ℕ) → shown_bytes tag q is ≡ held_bytes (shown_of tag is)
  unfolding held_of
  shown_there tag = rw null_there (go (is_null (part_of (find 0x4C 0 is))) (find tag q is) (find tag 0 is) (held_anywhere tag q 0 is))
    where
      same : (x y : Found) → held_of x ≡ held_of y → bytes_of x ≡ held_bytes (held_of y)
      same missing y e = ap held_bytes e
      same (found r v) y e = ap held_bytes e

      go : (b : Bool) (x y : Found) → held_of x ≡ held_of y → pick b [] (bytes_of x) ≡ held_bytes (pick b nothing (held_of y))
      go true x y e = refl
      go false x y e = same x y e

  pub material_there : material_view_in p (material_of q is) ≡ material_view_of_items is
  unfolding material_view_in material_of material_view_of_items
  material_there = rw (held_there 0x40, value_there 0x41, value_there 0x42, value_there 0x43, value_there 0x44, value_there 0x45)

  pub track_there : (type_byte id : ℕ) → track_view_in p (track_of type_byte id q is) ≡ track_view_of_parts (record { type_byte = type_byte; id = id; items = is })
  unfolding track_view_in track_of track_view_of_parts
  track_there type_byte id =
      rw (held_there 0x4C, hidden_there 0x4D, hidden_there 0x4F, shown_there 0x4D, shown_there 0x4F, null_there, value_there 0x4E, value_there 0x50, value_there 0x51, value_there 0x52)

-- a track's bytes stand in the packet from place q on
pub opened_there : (p : List ℕ) (q : ℕ) (d : Description) (pre post : List ℕ) → length pre ≡ q + 4 → p ≡ pre ++ (d.items ++ post)
    → track_view_in p (record_of (record { at = q; track = d })) ≡ track_view_of_parts (opened d)
unfolding record_of opened
opened_there p q d pre post l h =
    let is = (section_of d.items).list in
    let rest = drop (items_size is) d.items in
    let e : p ≡ pre ++ (items_bytes is ++ (rest ++ post)) = h ∙ ap (λ (x : List ℕ). pre ++ (x ++ post)) (sym (section_front d.items)) ∙ ap (λ (x : List ℕ). pre ++ x) (append_assoc (items_bytes is) rest post) in
    track_there p (q + 4) is pre (rest ++ post) l e d.type_byte d.id

-- a track is listed by its type byte alone
pub listed_opened : (d : Description) → is_listed (described (opened d)) ≡ is_listed d
unfolding is_listed described opened
listed_opened d = refl

-- one track more in front
one_more : (p : List ℕ) (q : ℕ) (d : Description) (ds : List Description) → track_view_in p (record_of (record { at = q; track = d })) ≡ track_view_of_parts (opened d)
    → map (λ x. track_view_in p (record_of x)) (listed (q + 4 + length d.items) ds) ≡ map track_view_of_parts (listed_of (map opened ds))
    → map (λ x. track_view_in p (record_of x)) (listed q (d ∷ ds)) ≡ map track_view_of_parts (listed_of (map opened (d ∷ ds)))
unfolding listed listed_of
one_more p q d ds e f = rw (listed_opened d) (go (is_listed d))
  where
    go : (b : Bool)
        → map (λ x. track_view_in p (record_of x)) (pick b (record { at = q; track = d } ∷ listed (q + 4 + length d.items) ds) (listed (q + 4 + length d.items) ds))
        ≡ map track_view_of_parts (pick b (opened d ∷ listed_of (map opened ds)) (listed_of (map opened ds)))
    go true = rw (e, f)
    go false = f

-- the tracks of a section that stands in the packet p behind some bytes
section_there : (p post : List ℕ) (f : ℕ) (s pre : List ℕ) → p ≡ pre ++ (s ++ post)
    → map (λ x. track_view_in p (record_of x)) (listed (length pre) (split_tracks f s).list) ≡ map track_view_of_parts (listed_of (map opened (split_tracks f s).list))
unfolding split_tracks listed listed_of
section_there p post zero s pre e = refl
section_there p post (suc f) [] pre e = refl
section_there p post (suc f) (k ∷ []) pre e = refl
section_there p post (suc f) (k ∷ i ∷ []) pre e = refl
section_there p post (suc f) (k ∷ i ∷ h ∷ []) pre e = refl
section_there p post (suc f) (k ∷ i ∷ h ∷ l ∷ s) pre e =
    go (leb (h * 256 + l) (length s)) (section_there p post f (drop (h * 256 + l) s) (pre ++ (k ∷ i ∷ h ∷ l ∷ take (h * 256 + l) s)) (e ∙ behind))
  where
    n : ℕ
    n = h * 256 + l

    d : Description
    d = record { type_byte = k; id = i; items = take n s }

    -- the packet cut behind the track, and behind its header
    cut : s ++ post ≡ take n s ++ (drop n s ++ post)
    cut = sym (sym (append_assoc (take n s) (drop n s) post) ∙ rw (take-append-drop n s))

    behind : pre ++ (k ∷ i ∷ h ∷ l ∷ (s ++ post)) ≡ pre ++ (k ∷ i ∷ h ∷ l ∷ take n s) ++ (drop n s ++ post)
    behind = sym (append_assoc pre (k ∷ i ∷ h ∷ l ∷ take n s) (drop n s ++ post) ∙ ap (λ (x : List ℕ). pre ++ (k ∷ i ∷ h ∷ l ∷ x)) (sym cut))

    headed : pre ++ (k ∷ i ∷ h ∷ l ∷ (s ++ post)) ≡ pre ++ (k ∷ i ∷ h ∷ l ∷ []) ++ (take n s ++ (drop n s ++ post))
    headed = sym (append_assoc pre (k ∷ i ∷ h ∷ l ∷ []) (take n s ++ (drop n s ++ post)) ∙ ap (λ (x : List ℕ). pre ++ (k ∷ i ∷ h ∷ l ∷ x)) (sym cut))

    go : (b : Bool)
        → map (λ x. track_view_in p (record_of x)) (listed (length (pre ++ (k ∷ i ∷ h ∷ l ∷ take n s))) (split_tracks f (drop n s)).list) ≡ map track_view_of_parts (listed_of (map opened (split_tracks f (drop n s)).list))
        → map (λ x. track_view_in p (record_of x)) (listed (length pre) (pick b (in_front d (split_tracks f (drop n s))) (none (hangs k i))).list)
        ≡ map track_view_of_parts (listed_of (map opened (pick b (in_front d (split_tracks f (drop n s))) (none (hangs k i))).list))
    go true ih =
        let w : length (pre ++ (k ∷ i ∷ h ∷ l ∷ take n s)) ≡ length pre + 4 + length (take n s) = length-append pre (k ∷ i ∷ h ∷ l ∷ take n s) ∙ omega arith in
        one_more p (length pre) d (split_tracks f (drop n s)).list
        (opened_there p (length pre) d (pre ++ (k ∷ i ∷ h ∷ l ∷ [])) (drop n s ++ post) (length-append pre (k ∷ i ∷ h ∷ l ∷ [])) (e ∙ headed)) (rw w at ih)
    go false ih = refl

-- the bytes between two places, and those before and after them
cut_part : (p : List ℕ) (from to : ℕ) → p ≡ take from p ++ (part from to p ++ drop (to - from) (drop from p))
cut_part p from to = sym (rw (take-append-drop (to - from) (drop from p)) (take-append-drop from p))

module _ (p : List ℕ) where
  between : (a : ℕ) → 20 ≤ a → a ≤ length p → material_view_in p (material_of 20 (section_of (part 20 a p)).list) ≡ material_view_of_items (section_of (part 20 a p)).list
  between a h k =
      let s = part 20 a p in
      let is = (section_of s).list in
      let rest = drop (items_size is) s in
      let post = drop (a - 20) (drop 20 p) in
      let e : p ≡ take 20 p ++ (items_bytes is ++ (rest ++ post))
      = cut_part p 20 a ∙ ap (λ (x : List ℕ). take 20 p ++ x) (ap (λ (x : List ℕ). x ++ post) (sym (section_front s)) ∙ append_assoc (items_bytes is) rest post) in
      material_there p 20 is (take 20 p) (rest ++ post) (length-take-le 20 p (omega arith)) e

  material_shown : (l : Layout) → Within (length p) l → material_view_in p (material_of 20 (section_of (material_in p l)).list) ≡ material_view_of_items (section_of (material_in p l)).list
  unfolding section_of items.split_items find material_view_in material_of material_view_of_items held_of
  material_shown (Both a e) w = between a w.0 (omega (arith, w.1, w.2))
  material_shown (One a) w = between a w.0 w.1
  material_shown Neither w = refl

  tracks_shown : (l : Layout) → Within (length p) l
      → map (λ x. track_view_in p (record_of x)) (listed (tracks_at l) (tracks_of (tracks_in p l)).list) ≡ map track_view_of_parts (listed_of (map opened (tracks_of (tracks_in p l)).list))
  unfolding tracks_of split_tracks listed listed_of
  tracks_shown (Both a e) w =
      let s = part (a + 2) e p in
      let c = section_there p (drop (e - (a + 2)) (drop (a + 2) p)) (suc (length s)) s (take (a + 2) p) (cut_part p (a + 2) e) in
      rw (length-take-le (a + 2) p (omega (arith, w.0, w.1, w.2))) at c
  tracks_shown (One a) w = refl
  tracks_shown Neither w = refl

pub length-map : {A B : Type 0} (f : A → B) (xs : List A) → length (map f xs) ≡ length xs
length-map f [] = refl
length-map f (x ∷ xs) = ap suc (length-map f xs)

-- what a packet shows is what its parts say
pub view_of_parts_lem : (p : List ℕ) → view_in p ≡ view_of_parts (parts_of p)
unfolding view_in view_of_parts parts_of material_says listed_in
view_of_parts_lem p =
    let l = layout_of p in
    let x : List Placed = listed (tracks_at l) (tracks_of (tracks_in p l)).list in
    let y : List TrackParts = listed_of (map opened (tracks_of (tracks_in p l)).list) in
    let t = tracks_shown p l (layout_within p) in
    let c : length x ≡ length y = sym (length-map (λ (z : Placed). track_view_in p (record_of z)) x) ∙ ap length t ∙ length-map track_view_of_parts y in
    rw (material_shown p l (layout_within p), t, c)

-- and of a packet that was put together, what those parts say
pub view_encoded : (p : MapParts) → Fit p → view_in (encode p) ≡ view_of_parts p
view_encoded p f = view_of_parts_lem (encode p) ∙ ap view_of_parts (parts_of_encoded p f)
