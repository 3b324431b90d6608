-- The parts of a packet: they fit, they are what the reader asks, and a map put together from such parts is accepted.
use Prim.Native.Nat.{ℕ, ◌+◌, ◌-◌, ◌≤◌, ◌<◌}
use mathlib.Core.Path.{◌≡◌, refl, sym, ◌∙◌}
use mathlib.Core.Bool.{Bool, true, false}
use mathlib.Core.List.{List, [], ◌∷◌, map}
use native.Mathlib.Omega.{arith}
use lib.ListN.{length, get_or, drop, length-drop}
use lib.Seq.{length-take-le}
use lib.Dec.{ltb, eqb}
use borrow.Author.Tests.{ltb-false, eqb-true}
use Rattle.std.specs.Prelude.{Ok}
use Rattle.plate.specs.Choice.{pick}
use Rattle.number.specs.Number.{be}
use Rattle.number.proofs.Laws.{Bytes, be_lt}
use Rattle.number.proofs.Bytes.{one_by_one, bytes_take, bytes_drop}
use Rattle.map_items.specs.Items.{section_of, items_bytes}
use Rattle.map_items.specs.Judge.{bad, and_then, judge_items, verdict_of}
use Rattle.map_items.specs.declared.Section.TheVariants as section
use Rattle.map_items.proofs.Split as items
use Rattle.map_items.proofs.Anywhere.{not_accepted, both_accepted, judge_anywhere, verdict_accepted}
use Rattle.map_tracks.specs.Tracks.{Description, End, over, tracks_of, judge_tracks, tracks_verdict}
use Rattle.map_tracks.specs.Tracks as tracks
use Rattle.map_tracks.proofs.Split as split
use Rattle.map_tracks.proofs.Anywhere.{track_whole, passed, accepted_over, tracks_anywhere}
use Rattle.map.specs.Map.{after_material, layout_of, material_in, tracks_in, both_verdict, sections_verdict, map_verdict}
use Rattle.plate.specs.Part.{part}
use Rattle.map.specs.Encode.{MapParts, described, encode}
use Rattle.map.specs.Parts.{opened, parts_of}
use Rattle.map.specs.Inside.{Good}
use Rattle.map.specs.declared.Layout.{Layout}
use Rattle.map.specs.declared.Layout.TheVariants.{Both, One, Neither}
use Rattle.plate.specs.declared.Fault.TheVariants as fault
use Rattle.map.proofs.Laws.{part_length}
use Rattle.map.proofs.Encoded.{Fit, verdict_of_encoded}

-- what an accepted packet has met
pub record Sections (m : List ℕ) : Type 0 where
  pub a : ℕ
  pub e : ℕ
  pub long : 18 ≤ length m
  pub version : get_or m 16 0 ≡ 0xE0
  pub layout : layout_of m ≡ Both a e
  pub material : verdict_of section.Material (part 20 a m) 20 ≡ (Ok tt)
  pub tracks : tracks_verdict (part (a + 2) e m) (a + 2) ≡ (Ok tt)

pub accepted_sections : (m : List ℕ) → map_verdict m ≡ (Ok tt) → Sections m
unfolding map_verdict sections_verdict both_verdict
accepted_sections m h = go (ltb (length m) 18) (eqb (get_or m 16 0) 0xE0) refl refl h
  where
    on : (l : Layout) → layout_of m ≡ l → 18 ≤ length m → get_or m 16 0 ≡ 0xE0 → sections_verdict m l ≡ (Ok tt) → Sections m
    on (Both a e) q k v h =
        let b = both_accepted (verdict_of section.Material (part 20 a m) 20) (tracks_verdict (part (a + 2) e m) (a + 2)) h in
        record { a = a; e = e; long = k; version = v; layout = q; material = b.0; tracks = b.1 }
    on (One a) q k v h = not_accepted fault.Overhang a (both_accepted (verdict_of section.Material (part 20 a m) 20) (bad fault.Overhang a) h).1
    on Neither q k v h = not_accepted fault.Overhang 18 h

    go : (x y : Bool) → ltb (length m) 18 ≡ x → eqb (get_or m 16 0) 0xE0 ≡ y → pick x (bad fault.Overhang 16) (pick y (sections_verdict m (layout_of m)) (bad fault.MapVersion 16)) ≡ (Ok tt) → Sections m
    go true y q r h = not_accepted fault.Overhang 16 h
    go false true q r h = on (layout_of m) refl (ltb-false _ _ q) (eqb-true _ _ r) h
    go false false q r h = not_accepted fault.MapVersion 16 h

-- accepted tracks are whole, so their items are their bytes
described_opened : (d : Description) → (section_of d.items).end ≡ true → described (opened d) ≡ d
unfolding described opened
described_opened d w = rw (items.section_whole d.items w)

pub whole_tracks : (ids : List ℕ) (p : ℕ) (ds : List Description) (e : End) → judge_tracks ids p ds e ≡ (Ok tt) → map described (map opened ds) ≡ ds
whole_tracks ids p [] e h = refl
whole_tracks ids p (d ∷ ds) e h =
    let w = passed ids p d ds e h in
    rw (
      described_opened d (track_whole d.type_byte d.items (p + 4) w.items),
      whole_tracks (d.id ∷ ids) (p + 4 + length d.items) ds e w.rest,
    )

-- the two length words
pub both_words : (m : List ℕ) (a e : ℕ) → layout_of m ≡ Both a e → (a ≡ 20 + be m 18 2) × (e ≡ a + 2 + be m a 2)
unfolding layout_of after_material
both_words m a e = go (ltb (length m) 20) (ltb (length m - 20) (be m 18 2)) (ltb (length m - (20 + be m 18 2)) 2) (ltb (length m - (20 + be m 18 2) - 2) (be m (20 + be m 18 2) 2))
  where
    c : ℕ
    c = 20 + be m 18 2

    go : (x y z w : Bool) → pick x Neither (pick y Neither (pick z (One c) (pick w (One c) (Both c (c + 2 + be m c 2))))) ≡ Both a e → (a ≡ c) × (e ≡ a + 2 + be m a 2)
    go true y z w q = absurd (let z : ◌≡◌ {A = ℕ} 0 1 = cc in omega arith)
    go false true z w q = absurd (let z : ◌≡◌ {A = ℕ} 0 1 = cc in omega arith)
    go false false true w q = absurd (let z : ◌≡◌ {A = ℕ} 0 1 = cc in omega arith)
    go false false false true q = absurd (let z : ◌≡◌ {A = ℕ} 0 1 = cc in omega arith)
    go false false false false q =
        let r : c ≡ a = cc in
        let t : c + 2 + be m c 2 ≡ e = cc in
        (sym r, rw (← r) (sym t))

-- the parts of an accepted packet of bytes
module _ (m : List ℕ) (b : Bytes m) (h : map_verdict m ≡ (Ok tt)) where
  s : Sections m
  s = accepted_sections m h

  ds : List Description
  ds = (tracks_of (part (s.a + 2) s.e m)).list

  judged : judge_tracks [] (s.a + 2) ds (tracks_of (part (s.a + 2) s.e m)).end ≡ (Ok tt)
  unfolding tracks_verdict ds
  judged = s.tracks

  ends : (tracks_of (part (s.a + 2) s.e m)).end ≡ over
  ends = accepted_over [] (s.a + 2) ds _ judged

  -- the material items are the bytes of their section, and so are the tracks
  pub material_bytes : items_bytes (parts_of m).material ≡ material_in m (layout_of m)
  unfolding parts_of
  material_bytes = rw s.layout (items.section_whole (part 20 s.a m) (verdict_accepted section.Material (part 20 s.a m) 20 s.material).1)

  pub tracks_bytes_lem : tracks.descriptions_bytes (map described (parts_of m).tracks) ≡ tracks_in m (layout_of m)
  unfolding parts_of ds
  tracks_bytes_lem =
      let p = part (s.a + 2) s.e m in
      rw (s.layout, whole_tracks [] (s.a + 2) ds _ judged)
      (split.section_whole p (bytes_take (s.e - (s.a + 2)) (drop (s.a + 2) m) (bytes_drop (s.a + 2) m (one_by_one m b))) ends)

  -- they fit their length words
  pub material_under : length (material_in m (layout_of m)) < 65536
  material_under =
      let w = both_words m s.a s.e s.layout in
      rw s.layout (omega (arith, part_length 20 s.a m, be_lt m b 18 2, w.0))

  pub tracks_under : length (tracks_in m (layout_of m)) < 65536
  tracks_under =
      let w = both_words m s.a s.e s.layout in
      rw s.layout (omega (arith, part_length (s.a + 2) s.e m, be_lt m b s.a 2, w.1))

  spare : length (parts_of m).spare ≡ 4
  unfolding parts_of
  spare = length-take-le 4 (drop 10 m) (simp length-drop (omega (arith, s.long)))

  pub parts_fit : Fit (parts_of m)
  parts_fit =
      let t : length (tracks.descriptions_bytes (map described (parts_of m).tracks)) < 65536 = rw tracks_bytes_lem tracks_under in
      record {
        four = spare;
        material = rw material_bytes material_under;
        tracks = t;
        each = split.sized (map described (parts_of m).tracks) (omega (arith, split.length-bytes (map described (parts_of m).tracks)));
      }

  -- and are what the reader asks
  pub parts_good : Good (parts_of m)
  unfolding parts_of ds
  parts_good =
      let w = whole_tracks [] (s.a + 2) ds _ judged in
      rw (s.layout, w) (
        judge_anywhere section.Material [] 20 0 (section_of (part 20 s.a m)).list (verdict_accepted section.Material (part 20 s.a m) 20 s.material).0,
        tracks_anywhere [] (s.a + 2) 0 ds (rw ends at judged),
      )

-- a map put together is accepted where its parts are good, and only there
pub good_encoded : (p : MapParts) → Fit p → Good p → map_verdict (encode p) ≡ (Ok tt)
good_encoded p f g =
    verdict_of_encoded p f
    ∙ rw (judge_anywhere section.Material [] 0 20 p.material g.0, tracks_anywhere [] 0 (22 + length (items_bytes p.material)) (map described p.tracks) g.1)

pub encoded_good : (p : MapParts) → Fit p → map_verdict (encode p) ≡ (Ok tt) → Good p
encoded_good p f h =
    let a = both_accepted (and_then (judge_items section.Material [] 20 p.material) (Ok tt)) _ (sym (verdict_of_encoded p f) ∙ h) in
    let b = both_accepted (judge_items section.Material [] 20 p.material) (Ok tt) a.0 in
    (judge_anywhere section.Material [] 20 0 p.material b.0, tracks_anywhere [] (22 + length (items_bytes p.material)) 0 (map described p.tracks) a.1)
