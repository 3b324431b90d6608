-- A map that is refused with 29 stays refused with 29, struck or with an unknown item set in.
use Prim.Native.Nat.{ℕ, zero, suc, ◌+◌, ◌≤◌, ◌<◌}
use mathlib.Core.Path.{◌≡◌, refl, sym, ◌∙◌, ap}
use mathlib.Core.Bool.{Bool, true, false}
use mathlib.Core.List.{List, [], ◌∷◌, map}
use mathlib.Core.Logic.{◌⊎◌, inl, inr}
use native.Mathlib.Omega.{arith}
use lib.ListN.{length, drop, length-drop, length-append}
use lib.Seq.{length-take-le}
use Rattle.std.specs.Prelude.{Result, Ok, Err, ⊤}
use Rattle.plate.specs.Choice.{pick}
use Rattle.plate.specs.Part.{part}
use Rattle.plate.specs.Plate.{refusal}
use Rattle.number.proofs.Laws as number
use Rattle.packet.specs.Packet.{header_at, packet_at}
use Rattle.packet.proofs.Laws.{whole}
use Rattle.number.proofs.Laws.{be_lt}
use Rattle.map_items.specs.Items.{Item, section_of, items_size, items_bytes}
use Rattle.map_items.specs.Judge.{bad, and_then, form_of, is_known, has, judge_items}
use Rattle.map_items.specs.declared.Section.TheVariants as section
use Rattle.plate.specs.declared.Refusal.{Refusal}
use Rattle.plate.specs.declared.Fault.TheVariants as fault
use Rattle.map_items.proofs.Anywhere.{not_accepted, judge_anywhere, verdict_accepted, verdict_bytes}
use Rattle.map_items.proofs.Split as items
use Rattle.map_tracks.specs.Tracks.{Description, over, tracks_of, track_over, judge_tracks, is_listed}
use Rattle.map_tracks.specs.Inside.{descriptions_size}
use Rattle.map_tracks.specs.WrongForm.{WrongAt, RightForm, Otherwise, behind, FirstWrong}
use Rattle.map_tracks.proofs.Form.{over_anywhere, on_unlisted, wrong_refused, refused_wrong, right_over}
use Rattle.map_tracks.proofs.Split as split
use Rattle.map_tracks.proofs.WrongForm.{to_form}
use Rattle.map.specs.Map.{layout_of, material_in, tracks_in, map_verdict, answer_of, map_at}
use Rattle.map.specs.Encode.{TrackParts, MapParts, described, encode}
use Rattle.map.specs.Parts.{listed_of, opened, parts_of}
use Rattle.map.specs.WrongForm.{UpToTracks, WrongIn}
use Rattle.map.proofs.Encoded.{Fit, header_of_encoded, verdict_of_encoded}
use Rattle.map.proofs.Laws.{part_length, both_within}
use Rattle.map.proofs.Parts.{both_words}
use Rattle.map.proofs.WrongForm.{wrong_form_lem}
use Rattle.map_newer.specs.Demand.{Bytes, section_at, There, Room}
use Rattle.map_newer.specs.Strike.{material_stays, track_stays, struck_track, struck, strike, Boundary, in_material, in_track, set_at, set_in_track, set_in_parts, set_in}
use Rattle.map_newer.specs.WrongForm.{Refused29, Wrong, StaysWrong}
use Rattle.map_newer.proofs.Items.{Fewer, fewer_both, fewer_one, kept_good, set_good, set_size}
use Rattle.map_newer.proofs.Parts.{fits, struck_fit, whole_part}
use Rattle.map_newer.proofs.Tracks.{struck_form, set_form, set_tracks_size}

-- ---- tracks by their items: what one meets that passes otherwise, and that the first whose end does not pass is there
record Meets (ids : List ℕ) (t : TrackParts) : Type 0 where
  type_byte : 0x80 ≤ t.type_byte
  id : 0xC0 ≤ t.id
  fresh : has t.id ids ≡ false
  items : judge_items section.Track [] 0 t.items ≡ (Ok tt)

abbrev Right : TrackParts → Type 0
Right t = track_over t.type_byte t.items 0 ≡ (Ok tt)

abbrev HasWrong : List ℕ → List TrackParts → Type 0
HasWrong ids [] = ⊥
HasWrong ids (t ∷ ts) = Meets ids t × ((Right t → ⊥) ⊎ (Right t × HasWrong (t.id ∷ ids) ts))

-- of the tracks of a section
wrong_opened : (ids : List ℕ) (p : ℕ) (ds : List Description) (q : ℕ) → FirstWrong ids p ds q → HasWrong ids (map opened ds)
unfolding opened
wrong_opened ids p [] q f = f
wrong_opened ids p (d ∷ ds) q (o, w) = (meets, go w (λ f. wrong_opened (d.id ∷ ids) (behind p d) ds q f))
  where
    is : List Item
    is = (section_of d.items).list

    meets : Meets ids (opened d)
    meets = record { type_byte = o.type_byte; id = o.id; fresh = o.fresh; items = judge_anywhere section.Track [] (p + 4) 0 is (verdict_accepted section.Track d.items (p + 4) o.items).0 }

    go : WrongAt p d q ⊎ (RightForm p d × FirstWrong (d.id ∷ ids) (behind p d) ds q) → (FirstWrong (d.id ∷ ids) (behind p d) ds q → HasWrong (d.id ∷ ids) (map opened ds))
        → (Right (opened d) → ⊥) ⊎ (Right (opened d) × HasWrong (d.id ∷ ids) (map opened ds))
    go (inl w) later = inl (λ r. not_accepted fault.WrongForm q (sym (wrong_refused p d o.items q w) ∙ over_anywhere d.type_byte is 0 (p + 4) r))
    go (inr (h, f)) later = inr (over_anywhere d.type_byte is (p + 4) 0 (right_over p d o.items h), later f)

-- and such tracks, put together, are refused with 29
otherwise : (ids : List ℕ) (p : ℕ) (t : TrackParts) → Meets ids t → Otherwise ids p (described t)
unfolding described
otherwise ids p t m =
    record { type_byte = m.type_byte; id = m.id; fresh = m.fresh; items = verdict_bytes section.Track t.items (p + 4) ∙ rw (judge_anywhere section.Track [] 0 (p + 4) t.items m.items) }

wrong_judged : (ids : List ℕ) (p : ℕ) (ts : List TrackParts) → HasWrong ids ts → (q : ℕ) × (judge_tracks ids p (map described ts) over ≡ bad fault.WrongForm q)
unfolding described
wrong_judged ids p [] w = absurd w
wrong_judged ids p (t ∷ ts) (m, w) = go w (λ f. wrong_judged (t.id ∷ ids) (behind p (described t)) ts f)
  where
    o : Otherwise ids p (described t)
    o = otherwise ids p t m

    same : (v : Result ⊤ Refusal) → track_over t.type_byte (section_of (described t).items).list (p + 4) ≡ v → track_over t.type_byte t.items (p + 4) ≡ v
    same v e = rw (items.section_bytes_lem t.items) at e

    to : judge_tracks ids p (map described (t ∷ ts)) over ≡ and_then (track_over t.type_byte (section_of (described t).items).list (p + 4)) (judge_tracks (t.id ∷ ids) (behind p (described t)) (map described ts) over)
    to = to_form ids p (described t) (map described ts) over o

    refused : (Right t → ⊥) → (v : Result ⊤ Refusal) → track_over t.type_byte (section_of (described t).items).list (p + 4) ≡ v → (q : ℕ) × (judge_tracks ids p (map described (t ∷ ts)) over ≡ bad fault.WrongForm q)
    refused n (Ok _) e = absurd (n (over_anywhere t.type_byte t.items (p + 4) 0 (same (Ok tt) e)))
    refused n (Err r) e = let k = (refused_wrong p (described t) o.items r e).0 in (r.place, to ∙ rw e (ap Err k))

    go : (Right t → ⊥) ⊎ (Right t × HasWrong (t.id ∷ ids) ts) → (HasWrong (t.id ∷ ids) ts → (q : ℕ) × (judge_tracks (t.id ∷ ids) (behind p (described t)) (map described ts) over ≡ bad fault.WrongForm q))
        → (q : ℕ) × (judge_tracks ids p (map described (t ∷ ts)) over ≡ bad fault.WrongForm q)
    go (inl n) later = refused n (track_over t.type_byte (section_of (described t).items).list (p + 4)) refl
    go (inr (r, f)) later =
        let l = later f in
        let e : track_over t.type_byte (section_of (described t).items).list (p + 4) ≡ (Ok tt) = rw (items.section_bytes_lem t.items) (over_anywhere t.type_byte t.items 0 (p + 4) r) in
        (l.0, to ∙ rw e l.1)

-- ---- struck, and with an unknown item set in
struck_wrong : (more fewer : List ℕ) (ts : List TrackParts) → Fewer fewer more → HasWrong more ts → HasWrong fewer (map struck_track (listed_of ts))
unfolding listed_of struck_track is_listed described
struck_wrong more fewer [] f w = w
struck_wrong more fewer (t ∷ ts) f (m, w) = go (is_listed (described t)) refl w (λ l k. struck_wrong k l ts)
  where
    meets : Meets fewer (struck_track t)
    meets = record { type_byte = m.type_byte; id = m.id; fresh = f t.id m.fresh; items = kept_good section.Track track_stays [] [] 0 0 t.items (λ n e. e) m.items }

    go : (b : Bool) → is_listed (described t) ≡ b → (Right t → ⊥) ⊎ (Right t × HasWrong (t.id ∷ more) ts)
        → ((l k : List ℕ) → Fewer l k → HasWrong k ts → HasWrong l (map struck_track (listed_of ts))) → HasWrong fewer (map struck_track (pick b (t ∷ listed_of ts) (listed_of ts)))
    go true e (inl n) later = (meets, inl (λ r. n ((struck_form t.type_byte t.items).0 r)))
    go true e (inr (r, w)) later = (meets, inr ((struck_form t.type_byte t.items).1 r, later (t.id ∷ fewer) (t.id ∷ more) (fewer_both t.id fewer more f) w))
    go false e (inl n) later = absurd (n (sym (on_unlisted t.type_byte t.items 0 e)))
    go false e (inr (r, w)) later = later fewer (t.id ∷ more) (fewer_one t.id fewer more f) w

set_wrong : (ids : List ℕ) (j k : ℕ) (i : Item) (ts : List TrackParts) → is_known (form_of section.Track i.tag) ≡ false → HasWrong ids ts → HasWrong ids (set_in_track j k i ts)
unfolding set_in_track
set_wrong ids zero k i [] u w = w
set_wrong ids (suc j) k i [] u w = w
set_wrong ids zero k i (t ∷ ts) u (m, w) = (meets, go w)
  where
    meets : Meets ids (record { type_byte = t.type_byte; id = t.id; items = set_at k i t.items })
    meets = record { type_byte = m.type_byte; id = m.id; fresh = m.fresh; items = set_good section.Track [] 0 0 k i t.items u m.items }

    form : (track_over t.type_byte (set_at k i t.items) 0 ≡ (Ok tt) → Right t) × (Right t → track_over t.type_byte (set_at k i t.items) 0 ≡ (Ok tt))
    form = set_form t.type_byte k i t.items u

    go : (Right t → ⊥) ⊎ (Right t × HasWrong (t.id ∷ ids) ts) → (track_over t.type_byte (set_at k i t.items) 0 ≡ (Ok tt) → ⊥) ⊎ ((track_over t.type_byte (set_at k i t.items) 0 ≡ (Ok tt)) × HasWrong (t.id ∷ ids) ts)
    go (inl n) = inl (λ r. n (form.0 r))
    go (inr (r, w)) = inr (form.1 r, w)
set_wrong ids (suc j) k i (t ∷ ts) u (m, inl n) = (m, inl n)
set_wrong ids (suc j) k i (t ∷ ts) u (m, inr (r, w)) = (m, inr (r, set_wrong (t.id ∷ ids) j k i ts u w))

-- ---- what the reader says of one whole packet
read_refused : (m : List ℕ) (q : ℕ) → header_at m 0 ≡ Ok (record { packet_type = 0xBC; len = length m }) → map_verdict m ≡ bad fault.WrongForm q → map_at m 0 ≡ Err (refusal fault.WrongForm q)
unfolding map_at answer_of packet_at
read_refused m q h v = rw (h, whole_part m (length m) refl, v)

-- ---- a map whose parts fit, whose material passes and whose tracks have the wrong form
encoded_wrong : (p : MapParts) → Fit p → judge_items section.Material [] 0 p.material ≡ (Ok tt) → HasWrong [] p.tracks → Wrong (encode p)
encoded_wrong p f g w =
    let h = header_of_encoded p f in
    let t = wrong_judged [] (22 + length (items_bytes p.material)) p.tracks w in
    let v : map_verdict (encode p) ≡ bad fault.WrongForm t.0 = verdict_of_encoded p f ∙ rw (judge_anywhere section.Material [] 0 20 p.material g, t.1) in
    record { alone = sym (whole (encode p) 0 (record { packet_type = 0xBC; len = length (encode p) }) h).lens; place = t.0; read = read_refused (encode p) t.0 h v }

-- the tracks of a section, by their items, take no more bytes than it has
opened_size : (ds : List Description) → descriptions_size (map described (map opened ds)) ≤ descriptions_size ds
unfolding descriptions_size described opened
opened_size [] = omega arith
opened_size (d ∷ ds) =
    let z = (section_of d.items).list in
    omega (arith, opened_size ds, ap length (items.section_front d.items), length-append (items_bytes z) (drop (items_size z) d.items))

module _ (m : List ℕ) (b : Bytes m) (h : Refused29 m) where
  there : (u : UpToTracks m) × WrongIn m u h.0
  there = (wrong_form_lem m).only (refusal fault.WrongForm h.0) h.1 refl

  u : UpToTracks m
  u = there.0

  tracks_wrong : HasWrong [] (parts_of m).tracks
  unfolding parts_of u
  tracks_wrong = rw u.layout (wrong_opened [] (u.a + 2) (tracks_of (part (u.a + 2) u.e m)).list h.0 there.1)

  material_whole : items_bytes (parts_of m).material ≡ material_in m (layout_of m)
  unfolding parts_of
  material_whole = rw u.layout (items.section_whole (part 20 u.a m) (verdict_accepted section.Material (part 20 u.a m) 20 u.material).1)

  material_good : judge_items section.Material [] 0 (parts_of m).material ≡ (Ok tt)
  unfolding parts_of
  material_good = rw u.layout (judge_anywhere section.Material [] 20 0 (section_of (part 20 u.a m)).list (verdict_accepted section.Material (part 20 u.a m) 20 u.material).0)

  tracks_size_lem : descriptions_size (map described (parts_of m).tracks) ≤ length (tracks_in m (layout_of m))
  unfolding parts_of
  tracks_size_lem = let s = tracks_in m (layout_of m) in omega (arith, opened_size (tracks_of s).list, split.section_size_lem s)

  words : (length (material_in m (layout_of m)) < 65536) × (length (tracks_in m (layout_of m)) < 65536)
  words =
      let w = both_words m u.a u.e u.layout in
      let f : number.Bytes m = λ i. record { fits = b i } in
      rw u.layout (omega (arith, part_length 20 u.a m, be_lt m f 18 2, w.0), omega (arith, part_length (u.a + 2) u.e m, be_lt m f u.a 2, w.1))

  four : length (parts_of m).spare ≡ 4
  unfolding parts_of
  four = let w = both_within m u.a u.e u.layout in length-take-le 4 (drop 10 m) (simp length-drop (omega (arith, w.0, w.1, w.2)))

  fit : Fit (parts_of m)
  fit = fits (parts_of m) four (rw material_whole words.0) (omega (arith, tracks_size_lem, words.1))

  struck_stays : Wrong (strike m)
  unfolding strike struck
  struck_stays =
      encoded_wrong (struck (parts_of m)) (struck_fit (parts_of m) fit) (kept_good section.Material material_stays [] [] 0 0 (parts_of m).material (λ t e. e) material_good)
      (struck_wrong [] [] (parts_of m).tracks (λ t e. e) tracks_wrong)

  set_stays : (b : Boundary) (i : Item) → There b m → is_known (form_of (section_at b) i.tag) ≡ false → Room b i m → Wrong (set_in b i m)
  unfolding set_in set_in_parts
  set_stays (in_material k) i there unknown room =
      let p = parts_of m in
      encoded_wrong (set_in_parts (in_material k) i p)
      (fits (set_in_parts (in_material k) i p) four
      (omega (arith, items.length-bytes p.material, items.length-bytes (set_at k i p.material), set_size k i p.material, ap length material_whole)) (omega (arith, tracks_size_lem, words.1)))
      (set_good section.Material [] 0 0 k i p.material unknown material_good) tracks_wrong
  set_stays (in_track j k) i there unknown room =
      let p = parts_of m in
      encoded_wrong (set_in_parts (in_track j k) i p)
      (fits (set_in_parts (in_track j k) i p) four (rw material_whole words.0) (omega (arith, tracks_size_lem, set_tracks_size j k i p.tracks there)))
      material_good (set_wrong [] j k i p.tracks unknown tracks_wrong)

pub stays_wrong : StaysWrong
stays_wrong = record { struck = struck_stays; set_in_lem = λ m b h at i there u room. set_stays m b h at i there u.unknown room }
