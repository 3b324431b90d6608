-- The parts of a map, struck and with an item set in; and an accepted map by its parts.
use Prim.Native.Nat.{ℕ, ◌+◌, ◌-◌, ◌<◌}
use mathlib.Core.Path.{◌≡◌, refl, sym, ◌∙◌, ap}
use mathlib.Core.Bool.{true, false}
use mathlib.Core.List.{List, [], ◌∷◌, ◌++◌, map}
use native.Mathlib.Omega.{arith}
use lib.ListN.{length, drop, replicate}
use lib.Seq.{take_all}
use Rattle.std.specs.Prelude.{Result, Ok, Err, ⊤}
use Rattle.number.specs.Number.{be_bytes}
use Rattle.number.proofs.Bytes.{AllBytes, one_by_one, by_number, bytes_take, bytes_drop, bytes_join, bytes_number, bytes_zeros}
use Rattle.number.proofs.Laws as number
use Rattle.packet.specs.Packet.{packet_at, header_at}
use Rattle.packet.proofs.Laws.{typed, whole}
use Rattle.map_items.specs.Items.{Item, items_bytes}
use Rattle.map_items.specs.Judge.{form_of, is_known}
use Rattle.map_items.specs.Find.{find}
use Rattle.map_items.specs.declared.Section.TheVariants as section
use Rattle.map_items.proofs.Split as items
use Rattle.map_tracks.specs.Tracks as tracks
use Rattle.map_tracks.specs.Inside as inside-tracks
use Rattle.map_tracks.proofs.Split as split
use Rattle.map.specs.Map.{layout_of, material_in, tracks_in, map_verdict, on_verdict, answer_of, map_from, map_at, material_says, listed_in}
use Rattle.plate.specs.Part.{part}
use Rattle.map.specs.Encode.{MapParts, described, padding, section_bytes, packet_length, front, packet_of, encode}
use Rattle.map.specs.Parts.{listed_of, parts_of}
use Rattle.map.specs.Inside.{held_of, material_view_of_items, view_of_parts, Good}
use Rattle.map.specs.declared.Layout.{Layout}
use Rattle.map.specs.declared.Layout.TheVariants.{Both, One, Neither}
use Rattle.map.specs.declared.MapSays.{MapSays}
use Rattle.packet.specs.declared.Packet.{Packet}
use Rattle.plate.specs.declared.Refusal.{Refusal}
use Rattle.map.proofs.Encoded.{Fit, header_of_encoded}
use Rattle.map.proofs.Parts.{material_bytes, tracks_bytes_lem, parts_fit, parts_good, good_encoded}
use Rattle.map.proofs.ViewOfParts.{same_value, length-map}
use Rattle.map_newer.specs.Strike.{kept, material_stays, struck_track, struck, Boundary, in_material, in_track, set_at, set_in_track, set_in_parts}
use Rattle.map_newer.specs.Demand.{Accepted, section_at, Room, There}
use Rattle.map_newer.proofs.Items.{kept_again, kept_set, kept_good, set_good, kept_size, set_size, kept_bytes, set_bytes, kept_held}
use Rattle.map_newer.proofs.Tracks.{struck_tracks_good, set_tracks_good, struck_tracks_said, struck_listed, struck_twice, struck_set_tracks, struck_tracks_size, set_tracks_size, struck_tracks_bytes, set_tracks_bytes}

-- struck parts are what the reader asks, fit, and say the same
pub struck_good : (p : MapParts) → Good p → Good (struck p)
unfolding struck
struck_good p g = (kept_good section.Material material_stays [] [] 0 0 p.material (λ t e. e) g.0, struck_tracks_good [] [] p.tracks (λ t e. e) g.1)

pub fits : (p : MapParts) → length p.spare ≡ 4 → length (items_bytes p.material) < 65536 → inside-tracks.descriptions_size (map described p.tracks) < 65536 → Fit p
fits p f m t =
    record {
      four = f;
      material = m;
      tracks = rw (split.length-bytes (map described p.tracks)) t;
      each = split.sized (map described p.tracks) t;
    }

pub struck_fit : (p : MapParts) → Fit p → Fit (struck p)
unfolding struck
struck_fit p f =
    fits (struck p) f.four
    (omega (arith, f.material, items.length-bytes p.material, items.length-bytes (kept material_stays p.material), kept_size material_stays p.material))
    (omega (arith, f.tracks, split.length-bytes (map described p.tracks), struck_tracks_size p.tracks))

stays_at : (tag : ℕ) → is_known (form_of section.Material tag) ≡ true → (i : Item) → i.tag ≡ tag → material_stays i ≡ true
unfolding material_stays
stays_at tag k i e = rw (e, k)

held : (tag : ℕ) → is_known (form_of section.Material tag) ≡ true → (is : List Item) → held_of (find tag 0 (kept material_stays is)) ≡ held_of (find tag 0 is)
held tag k is = kept_held tag material_stays (stays_at tag k) 0 0 is

pub material_struck : (is : List Item) → material_view_of_items (kept material_stays is) ≡ material_view_of_items is
unfolding material_view_of_items form_of is_known
material_struck is =
    rw (
      held 0x40 refl is,
      same_value (find 0x41 0 (kept material_stays is)) (find 0x41 0 is) (held 0x41 refl is),
      same_value (find 0x42 0 (kept material_stays is)) (find 0x42 0 is) (held 0x42 refl is),
      same_value (find 0x43 0 (kept material_stays is)) (find 0x43 0 is) (held 0x43 refl is),
      same_value (find 0x44 0 (kept material_stays is)) (find 0x44 0 is) (held 0x44 refl is),
      same_value (find 0x45 0 (kept material_stays is)) (find 0x45 0 is) (held 0x45 refl is),
    )

pub struck_said : (p : MapParts) → Good p → view_of_parts (struck p) ≡ view_of_parts p
unfolding view_of_parts struck
struck_said p g =
    rw (
      struck_listed p.tracks,
      length-map struck_track (listed_of p.tracks),
      material_struck p.material,
      struck_tracks_said [] p.tracks g.1,
    )

-- striking twice is striking once, and an unknown item set in is struck
pub struck_again : (p : MapParts) → struck (struck p) ≡ struck p
unfolding struck
struck_again p = rw (kept_again material_stays p.material, struck_listed p.tracks, struck_twice (listed_of p.tracks))

goes : (i : Item) → is_known (form_of section.Material i.tag) ≡ false → material_stays i ≡ false
unfolding material_stays
goes i u = u

pub struck_set : (b : Boundary) (i : Item) (p : MapParts) → is_known (form_of (section_at b) i.tag) ≡ false → struck (set_in_parts b i p) ≡ struck p
unfolding struck set_in_parts
struck_set (in_material k) i p u = rw (kept_set material_stays k i p.material (goes i u))
struck_set (in_track j k) i p u = rw (struck_set_tracks j k i p.tracks u)

pub set_parts_good : (b : Boundary) (i : Item) (p : MapParts) → is_known (form_of (section_at b) i.tag) ≡ false → Good p → Good (set_in_parts b i p)
unfolding set_in_parts
set_parts_good (in_material k) i p u g = (set_good section.Material [] 0 0 k i p.material u g.0, g.1)
set_parts_good (in_track j k) i p u g = (g.0, set_tracks_good [] j k i p.tracks u g.1)

-- the bytes of parts
pub record ByteParts (p : MapParts) : Type 0 where
  pub spare : AllBytes p.spare
  pub second : p.second < 256
  pub material : AllBytes (items_bytes p.material)
  pub tracks : AllBytes (tracks.descriptions_bytes (map described p.tracks))

pub struck_parts_bytes : (p : MapParts) → ByteParts p → ByteParts (struck p)
unfolding struck
struck_parts_bytes p b =
    record {
      spare = b.spare;
      second = b.second;
      material = kept_bytes material_stays p.material b.material;
      tracks = struck_tracks_bytes p.tracks b.tracks;
    }

pub set_parts_bytes : (b : Boundary) (i : Item) (p : MapParts) → AllBytes (items_bytes (i ∷ [])) → ByteParts p → ByteParts (set_in_parts b i p)
unfolding set_in_parts
set_parts_bytes (in_material k) i p h b = record { spare = b.spare; second = b.second; material = set_bytes k i p.material h b.material; tracks = b.tracks }
set_parts_bytes (in_track j k) i p h b = record { spare = b.spare; second = b.second; material = b.material; tracks = set_tracks_bytes j k i p.tracks h b.tracks }

encoded_bytes : (p : MapParts) → ByteParts p → AllBytes (encode p)
unfolding encode packet_of front section_bytes packet_length
encoded_bytes p b =
    let m = items_bytes p.material in
    let t = tracks.descriptions_bytes (map described p.tracks) in
    let n = packet_length m t in
    let x : AllBytes (p.spare ++ (0xE1 ∷ 0xE2 ∷ 0xE0 ∷ p.second ∷ [])) = bytes_join p.spare _ b.spare (omega arith, (omega arith, (omega arith, (b.second, tt)))) in
    let y : AllBytes (be_bytes 4 n ++ (p.spare ++ (0xE1 ∷ 0xE2 ∷ 0xE0 ∷ p.second ∷ []))) = bytes_join (be_bytes 4 n) _ (bytes_number 4 n) x in
    let f : AllBytes (front n p.spare p.second) = (omega arith, (omega arith, (omega arith, (omega arith, (omega arith, (omega arith, y)))))) in
    let v : AllBytes (be_bytes 2 (length t) ++ t) = bytes_join (be_bytes 2 (length t)) t (bytes_number 2 (length t)) b.tracks in
    let w : AllBytes (m ++ (be_bytes 2 (length t) ++ t)) = bytes_join m _ b.material v in
    let s : AllBytes (section_bytes m t) = bytes_join (be_bytes 2 (length m)) _ (bytes_number 2 (length m)) w in
    let z = padding (22 + length m + length t) in
    bytes_join (front n p.spare p.second) (section_bytes m t ++ replicate z 0) f (bytes_join (section_bytes m t) (replicate z 0) s (bytes_zeros z))

-- an accepted map is one that the walk accepts
pub whole_part : (m : List ℕ) (n : ℕ) → n ≡ length m → part 0 (0 + n) m ≡ m
whole_part m n e = take_all (0 + n - 0) m (omega arith)

pub accepted_verdict : (m : List ℕ) → Accepted m → map_verdict m ≡ (Ok tt)
unfolding map_at answer_of
accepted_verdict m h = on (packet_at m 0 0xBC) refl h.read
  where
    told : (v : Result ⊤ Refusal) (a : Result MapSays Refusal) → map_verdict m ≡ v → on_verdict v a ≡ Ok h.says → map_verdict m ≡ (Ok tt)
    told (Ok _) a e f = e
    told (Err r) a e f = absurd (let z : ◌≡◌ {A = ℕ} 0 1 = cc in omega arith)

    on : (a : Result Packet Refusal) → packet_at m 0 0xBC ≡ a → map_from m 0 a ≡ Ok h.says → map_verdict m ≡ (Ok tt)
    on (Err r) e f = absurd (let z : ◌≡◌ {A = ℕ} 0 1 = cc in omega arith)
    on (Ok w) e f =
        let g = whole m 0 w (typed m 0 0xBC w e).0 in
        let l : w.len ≡ length m = g.lens ∙ h.alone in
        told (map_verdict m) _ refl (rw (whole_part m w.len l) at f)

pub read_accepted : (m : List ℕ) → header_at m 0 ≡ Ok (record { packet_type = 0xBC; len = length m }) → map_verdict m ≡ (Ok tt)
    → map_at m 0 ≡ Ok (record { count = length (listed_in m); material = material_says m })
unfolding map_at answer_of packet_at
read_accepted m h v = rw (h, whole_part m (length m) refl, v)

-- its header states its length
pub accepted_header : (m : List ℕ) → Accepted m → header_at m 0 ≡ Ok (record { packet_type = 0xBC; len = length m })
unfolding map_at
accepted_header m h = on (packet_at m 0 0xBC) refl h.read
  where
    on : (a : Result Packet Refusal) → packet_at m 0 0xBC ≡ a → map_from m 0 a ≡ Ok h.says → header_at m 0 ≡ Ok (record { packet_type = 0xBC; len = length m })
    on (Err r) e f = absurd (let z : ◌≡◌ {A = ℕ} 0 1 = cc in omega arith)
    on (Ok w) e f =
        let t = typed m 0 0xBC w e in
        let g = whole m 0 w t.0 in
        t.0 ∙ rw (← t.1, ← h.alone, ← g.lens)

-- and a map put together from good parts is one
pub encoded_accepted : (p : MapParts) → Fit p → Good p → ByteParts p → Accepted (encode p)
encoded_accepted p f g b =
    let h = header_of_encoded p f in
    record {
      bytes = λ i. (by_number (encode p) (encoded_bytes p b) i).fits;
      alone = sym (whole (encode p) 0 (record { packet_type = 0xBC; len = length (encode p) }) h).lens;
      says = record { count = length (listed_in (encode p)); material = material_says (encode p) };
      read = read_accepted (encode p) h (good_encoded p f g);
    }

-- the parts of an accepted map
module _ (m : List ℕ) (h : Accepted m) where
  pub bytes_fit : number.Bytes m
  bytes_fit i = record { fits = h.bytes i }

  pub fit_parts : Fit (parts_of m)
  fit_parts = parts_fit m bytes_fit (accepted_verdict m h)

  pub good_parts : Good (parts_of m)
  good_parts = parts_good m bytes_fit (accepted_verdict m h)

  pub section_material : items_bytes (parts_of m).material ≡ material_in m (layout_of m)
  section_material = material_bytes m bytes_fit (accepted_verdict m h)

  pub section_tracks : tracks.descriptions_bytes (map described (parts_of m).tracks) ≡ tracks_in m (layout_of m)
  section_tracks = tracks_bytes_lem m bytes_fit (accepted_verdict m h)

  in_part : (from to : ℕ) → AllBytes (part from to m)
  in_part from to = bytes_take (to - from) (drop from m) (bytes_drop from m (one_by_one m bytes_fit))

  in_material_lem : (l : Layout) → AllBytes (material_in m l)
  in_material_lem (Both a e) = in_part 20 a
  in_material_lem (One a) = in_part 20 a
  in_material_lem Neither = tt

  in_tracks : (l : Layout) → AllBytes (tracks_in m l)
  in_tracks (Both a e) = in_part (a + 2) e
  in_tracks (One a) = tt
  in_tracks Neither = tt

  spare_bytes : AllBytes (parts_of m).spare
  unfolding parts_of
  spare_bytes = bytes_take 4 (drop 10 m) (bytes_drop 10 m (one_by_one m bytes_fit))

  second_byte : (parts_of m).second < 256
  unfolding parts_of
  second_byte = h.bytes 17

  pub byte_parts : ByteParts (parts_of m)
  byte_parts = record { spare = spare_bytes; second = second_byte; material = rw section_material (in_material_lem (layout_of m)); tracks = rw section_tracks (in_tracks (layout_of m)) }

  -- the section that an item is set in, by its length
  pub set_fit : (b : Boundary) (i : Item) → There b m → Room b i m → Fit (set_in_parts b i (parts_of m))
  unfolding set_in_parts
  set_fit (in_material k) i there room =
      let p = parts_of m in
      fits (set_in_parts (in_material k) i p) fit_parts.four
      (omega (arith, items.length-bytes p.material, items.length-bytes (set_at k i p.material), set_size k i p.material, ap length section_material))
      (omega (arith, split.length-bytes (map described p.tracks), fit_parts.tracks))
  set_fit (in_track j k) i there room =
      let p = parts_of m in
      fits (set_in_parts (in_track j k) i p) fit_parts.four fit_parts.material
      (omega (arith, split.length-bytes (map described p.tracks), set_tracks_size j k i p.tracks there, ap length section_tracks))

  pub room_asked : (b : Boundary) (i : Item) → There b m → Fit (set_in_parts b i (parts_of m)) → Room b i m
  unfolding set_in_parts
  room_asked (in_material k) i there f =
      let p = parts_of m in
      omega (arith, f.material, items.length-bytes p.material, items.length-bytes (set_at k i p.material), set_size k i p.material, ap length section_material)
  room_asked (in_track j k) i there f =
      let p = parts_of m in
      omega (
        arith,
        f.tracks,
        split.length-bytes (map described p.tracks),
        split.length-bytes (map described (set_in_track j k i p.tracks)),
        set_tracks_size j k i p.tracks there,
        ap length section_tracks,
      )
