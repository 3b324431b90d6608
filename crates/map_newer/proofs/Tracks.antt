-- Tracks struck and set in.
use Prim.Native.Nat.{ℕ, zero, suc, ◌+◌, ◌-◌, ◌<◌, ◌≤◌}
use mathlib.Core.Path.{◌≡◌, refl, sym, ◌∙◌, ap}
use mathlib.Core.Bool.{Bool, true, false}
use mathlib.Core.List.{List, [], ◌∷◌, ◌++◌, map}
use native.Mathlib.Omega.{arith}
use lib.ListN.{length}
use Rattle.std.specs.Prelude.{Ok}
use Rattle.media_type.specs.MediaType.{mpeg_type, wrong_form}
use Rattle.plate.specs.Choice.{pick, within}
use Rattle.number.specs.Number.{be_bytes}
use Rattle.number.proofs.Bytes.{AllBytes, bytes_join, bytes_left, bytes_right, bytes_number}
use Rattle.map_items.specs.Items.{Item, items_bytes}
use Rattle.map_items.specs.Judge.{form_of, is_known, has, judge_items}
use Rattle.map_items.specs.Find.{Found, missing, found, find}
use Rattle.map_items.specs.declared.Section.TheVariants as section
use Rattle.map_items.proofs.Anywhere.{both_accepted, verdict_bytes, judge_anywhere}
use Rattle.map_items.proofs.Split as split
use Rattle.map_tracks.specs.Tracks.{over, track_over, track_verdict, judge_tracks, is_listed}
use Rattle.map_tracks.specs.Tracks as tracks
use Rattle.map_tracks.specs.Inside as inside-tracks
use Rattle.map_tracks.proofs.Anywhere.{track_accepted, passed, pass, tracks_anywhere}
use Rattle.map_tracks.proofs.Form.{size_of, over_alike, over_anywhere, name_known, form_known}
use Rattle.map.specs.Encode.{TrackParts, described}
use Rattle.map.specs.Parts.{listed_of}
use Rattle.map.specs.Inside.{held_of, track_view_of_parts}
use Rattle.map.proofs.ViewOfParts.{same_value, same_null}
use Rattle.map_newer.specs.Strike.{kept, track_stays, struck_track, set_at, set_in_track}
use Rattle.map_newer.proofs.Items.{Fewer, fewer_both, fewer_one, kept_again, kept_set, kept_good, set_good, kept_size, set_size, kept_bytes, set_bytes, kept_held, kept_code}

-- a track put together is judged by its items and its end
track_good : (type_byte : ℕ) (is : List Item) (p : ℕ) → judge_items section.Track [] p is ≡ (Ok tt) → track_over type_byte is p ≡ (Ok tt) → track_verdict type_byte (items_bytes is) p ≡ (Ok tt)
unfolding track_verdict
track_good type_byte is p e o = rw (verdict_bytes section.Track is p, e, split.section_bytes_lem is) o

good_track : (type_byte : ℕ) (is : List Item) (p : ℕ) → track_verdict type_byte (items_bytes is) p ≡ (Ok tt) → (judge_items section.Track [] p is ≡ (Ok tt)) × (track_over type_byte is p ≡ (Ok tt))
good_track type_byte is p e =
    let a = track_accepted type_byte (items_bytes is) p e in
    ((both_accepted (judge_items section.Track [] p is) (Ok tt) (sym (verdict_bytes section.Track is p) ∙ a.0)).0, rw (split.section_bytes_lem is) at a.1)

-- one track more in front of accepted ones, and what such a track has met
pub record Front (ids : List ℕ) (t : TrackParts) (ts : List TrackParts) : Type 0 where
  pub type_byte : 0x80 ≤ t.type_byte
  pub id : 0xC0 ≤ t.id
  pub fresh : has t.id ids ≡ false
  pub items : judge_items section.Track [] 0 t.items ≡ (Ok tt)
  pub form : track_over t.type_byte t.items 0 ≡ (Ok tt)
  pub rest : judge_tracks (t.id ∷ ids) 0 (map described ts) over ≡ (Ok tt)

pub in_front_lem : (ids : List ℕ) (t : TrackParts) (ts : List TrackParts) → judge_tracks ids 0 (map described (t ∷ ts)) over ≡ (Ok tt) → Front ids t ts
unfolding described
in_front_lem ids t ts e =
    let w = passed ids 0 (described t) (map described ts) over e in
    let g = good_track t.type_byte t.items 4 w.items in
    record {
      type_byte = w.type_byte;
      id = w.id;
      fresh = w.fresh;
      items = judge_anywhere section.Track [] 4 0 t.items g.0;
      form = over_anywhere t.type_byte t.items 4 0 g.1;
      rest = tracks_anywhere (t.id ∷ ids) _ 0 (map described ts) w.rest;
    }

pub put_front : (ids : List ℕ) (t : TrackParts) (ts : List TrackParts) → Front ids t ts → judge_tracks ids 0 (map described (t ∷ ts)) over ≡ (Ok tt)
unfolding described
put_front ids t ts w =
    pass ids 0 (described t) (map described ts) over
    (record {
      type_byte = w.type_byte;
      id = w.id;
      fresh = w.fresh;
      items = track_good t.type_byte t.items 4 (judge_anywhere section.Track [] 0 4 t.items w.items) (over_anywhere t.type_byte t.items 0 4 w.form);
      rest = tracks_anywhere (t.id ∷ ids) 0 (4 + length (items_bytes t.items)) (map described ts) w.rest;
    })

-- an item stays whose tag is known and no code's
stays : (tag : ℕ) → is_known (form_of section.Track tag) ≡ true → within 0x50 0x52 tag ≡ false → (i : Item) → i.tag ≡ tag → track_stays i ≡ true
unfolding track_stays
stays tag k c i e = rw (e, k, c)

-- an unknown item goes
unknown_goes : (i : Item) → is_known (form_of section.Track i.tag) ≡ false → track_stays i ≡ false
unfolding track_stays
unknown_goes i u = rw u

-- name and form are found as before, struck or with an unknown item set in: 4C, 4D and 4F always stay, and an unknown item is none of them
form_no_code : (type_byte : ℕ) → within 0x50 0x52 (wrong_form (type_byte - 0x80)) ≡ false
unfolding wrong_form
form_no_code type_byte = go (mpeg_type (type_byte - 0x80))
  where
    go : (b : Bool) → within 0x50 0x52 (pick b 0x4D 0x4F) ≡ false
    go true = refl
    go false = refl

same_size : (x y : Found) → held_of x ≡ held_of y → size_of x ≡ size_of y
unfolding held_of size_of
same_size missing missing e = refl
same_size missing (found q w) e = absurd (let z : ◌≡◌ {A = ℕ} 0 1 = cc in omega arith)
same_size (found p v) missing e = absurd (let z : ◌≡◌ {A = ℕ} 0 1 = cc in omega arith)
same_size (found p v) (found q w) e = let z : length v ≡ length w = cc in ap suc z

pub struck_form : (type_byte : ℕ) (is : List Item) → (track_over type_byte (kept track_stays is) 0 ≡ (Ok tt) → track_over type_byte is 0 ≡ (Ok tt)) × (track_over type_byte is 0 ≡ (Ok tt) → track_over type_byte (kept track_stays is) 0 ≡ (Ok tt))
struck_form type_byte is =
    let wrong = wrong_form (type_byte - 0x80) in
    let n = same_size (find 0x4C 0 (kept track_stays is)) (find 0x4C 0 is) (kept_held 0x4C track_stays (stays 0x4C name_known refl) 0 0 is) in
    let w = same_size (find wrong 0 (kept track_stays is)) (find wrong 0 is) (kept_held wrong track_stays (stays wrong (form_known (type_byte - 0x80)) (form_no_code type_byte)) 0 0 is) in
    (over_alike type_byte (kept track_stays is) is 0 0 n w, over_alike type_byte is (kept track_stays is) 0 0 (sym n) (sym w))

pub set_form : (type_byte k : ℕ) (i : Item) (is : List Item) → is_known (form_of section.Track i.tag) ≡ false
    → (track_over type_byte (set_at k i is) 0 ≡ (Ok tt) → track_over type_byte is 0 ≡ (Ok tt)) × (track_over type_byte is 0 ≡ (Ok tt) → track_over type_byte (set_at k i is) 0 ≡ (Ok tt))
set_form type_byte k i is u =
    let with = struck_form type_byte (set_at k i is) in
    let without = struck_form type_byte is in
    let same = kept_set track_stays k i is (unknown_goes i u) in
    (λ e. without.0 (rw same at (with.1 e)), λ e. with.0 (rw same (without.1 e)))

-- accepted tracks stay accepted, struck or with an unknown item set in
pub struck_tracks_good : (more fewer : List ℕ) (ts : List TrackParts) → Fewer fewer more → judge_tracks more 0 (map described ts) over ≡ (Ok tt)
    → judge_tracks fewer 0 (map described (map struck_track (listed_of ts))) over ≡ (Ok tt)
unfolding listed_of struck_track judge_tracks tracks.end_verdict
struck_tracks_good more fewer [] f e = refl
struck_tracks_good more fewer (t ∷ ts) f e = go (is_listed (described t)) (in_front_lem more t ts e) (λ l m. struck_tracks_good m l ts)
  where
    go : (b : Bool) → Front more t ts
        → ((l m : List ℕ) → Fewer l m → judge_tracks m 0 (map described ts) over ≡ (Ok tt) → judge_tracks l 0 (map described (map struck_track (listed_of ts))) over ≡ (Ok tt))
        → judge_tracks fewer 0 (map described (map struck_track (pick b (t ∷ listed_of ts) (listed_of ts)))) over ≡ (Ok tt)
    go true w rest =
        put_front fewer (struck_track t) (map struck_track (listed_of ts))
        (record {
          type_byte = w.type_byte;
          id = w.id;
          fresh = f t.id w.fresh;
          items = kept_good section.Track track_stays [] [] 0 0 t.items (λ n e. e) w.items;
          form = (struck_form t.type_byte t.items).1 w.form;
          rest = rest (t.id ∷ fewer) (t.id ∷ more) (fewer_both t.id fewer more f) w.rest;
        })
    go false w rest = rest fewer (t.id ∷ more) (fewer_one t.id fewer more f) w.rest

pub set_tracks_good : (ids : List ℕ) (j k : ℕ) (i : Item) (ts : List TrackParts) → is_known (form_of section.Track i.tag) ≡ false
    → judge_tracks ids 0 (map described ts) over ≡ (Ok tt) → judge_tracks ids 0 (map described (set_in_track j k i ts)) over ≡ (Ok tt)
unfolding set_in_track
set_tracks_good ids zero k i [] u e = e
set_tracks_good ids (suc j) k i [] u e = e
set_tracks_good ids zero k i (t ∷ ts) u e =
    let w = in_front_lem ids t ts e in
    put_front ids (record { type_byte = t.type_byte; id = t.id; items = set_at k i t.items }) ts
    (record { type_byte = w.type_byte; id = w.id; fresh = w.fresh; items = set_good section.Track [] 0 0 k i t.items u w.items; form = (set_form t.type_byte k i t.items u).1 w.form; rest = w.rest })
set_tracks_good ids (suc j) k i (t ∷ ts) u e =
    let w = in_front_lem ids t ts e in
    put_front ids t (set_in_track j k i ts)
    (record { type_byte = w.type_byte; id = w.id; fresh = w.fresh; items = w.items; form = w.form; rest = set_tracks_good (t.id ∷ ids) j k i ts u w.rest })

-- a struck track says what the track says
pub struck_track_said : (t : TrackParts) → judge_items section.Track [] 0 t.items ≡ (Ok tt) → track_view_of_parts (struck_track t) ≡ track_view_of_parts t
unfolding track_view_of_parts struck_track form_of is_known
struck_track_said t e =
    let is = t.items in
    let name = kept_held 0x4C track_stays (stays 0x4C refl refl) 0 0 is in
    rw (
      kept_code 0x50 refl refl [] 0 0 0 is e,
      kept_code 0x51 refl refl [] 0 0 0 is e,
      kept_code 0x52 refl refl [] 0 0 0 is e,
      same_null (find 0x4C 0 (kept track_stays is)) (find 0x4C 0 is) name,
      name,
      same_value (find 0x4E 0 (kept track_stays is)) (find 0x4E 0 is) (kept_held 0x4E track_stays (stays 0x4E refl refl) 0 0 is),
      kept_held 0x4D track_stays (stays 0x4D refl refl) 0 0 is,
      kept_held 0x4F track_stays (stays 0x4F refl refl) 0 0 is,
    )

-- and the struck tracks say what the listed tracks say
pub struck_tracks_said : (ids : List ℕ) (ts : List TrackParts) → judge_tracks ids 0 (map described ts) over ≡ (Ok tt)
    → map track_view_of_parts (map struck_track (listed_of ts)) ≡ map track_view_of_parts (listed_of ts)
unfolding listed_of
struck_tracks_said ids [] e = refl
struck_tracks_said ids (t ∷ ts) e = let w = in_front_lem ids t ts e in go (is_listed (described t)) (struck_track_said t w.items) (struck_tracks_said (t.id ∷ ids) ts w.rest)
  where
    go : (b : Bool) → track_view_of_parts (struck_track t) ≡ track_view_of_parts t → map track_view_of_parts (map struck_track (listed_of ts)) ≡ map track_view_of_parts (listed_of ts)
        → map track_view_of_parts (map struck_track (pick b (t ∷ listed_of ts) (listed_of ts))) ≡ map track_view_of_parts (pick b (t ∷ listed_of ts) (listed_of ts))
    go true h rest = rw (h, rest)
    go false h rest = rest

-- struck tracks are listed, each of them
listed_struck : (t : TrackParts) → is_listed (described (struck_track t)) ≡ is_listed (described t)
unfolding is_listed described struck_track
listed_struck t = refl

pub struck_listed : (ts : List TrackParts) → listed_of (map struck_track (listed_of ts)) ≡ map struck_track (listed_of ts)
unfolding listed_of
struck_listed [] = refl
struck_listed (t ∷ ts) = go (is_listed (described t)) refl (struck_listed ts)
  where
    go : (b : Bool) → is_listed (described t) ≡ b → listed_of (map struck_track (listed_of ts)) ≡ map struck_track (listed_of ts)
        → listed_of (map struck_track (pick b (t ∷ listed_of ts) (listed_of ts))) ≡ map struck_track (pick b (t ∷ listed_of ts) (listed_of ts))
    go true q rest = rw (listed_struck t, q, rest)
    go false q rest = rest

pub struck_twice : (ts : List TrackParts) → map struck_track (map struck_track ts) ≡ map struck_track ts
unfolding struck_track
struck_twice [] = refl
struck_twice (t ∷ ts) = rw (kept_again track_stays t.items, struck_twice ts)

-- a track is listed with an item set in as without it
listed_set : (t : TrackParts) (is : List Item) → is_listed (described (record { type_byte = t.type_byte; id = t.id; items = is })) ≡ is_listed (described t)
unfolding is_listed described
listed_set t is = refl

pub struck_set_tracks : (j k : ℕ) (i : Item) (ts : List TrackParts) → is_known (form_of section.Track i.tag) ≡ false
    → map struck_track (listed_of (set_in_track j k i ts)) ≡ map struck_track (listed_of ts)
unfolding set_in_track listed_of struck_track
struck_set_tracks zero k i [] u = refl
struck_set_tracks (suc j) k i [] u = refl
struck_set_tracks zero k i (t ∷ ts) u = rw (listed_set t (set_at k i t.items)) (go (is_listed (described t)))
  where
    go : (b : Bool) → map struck_track (pick b (record { type_byte = t.type_byte; id = t.id; items = set_at k i t.items } ∷ listed_of ts) (listed_of ts)) ≡ map struck_track (pick b (t ∷ listed_of ts) (listed_of ts))
    go true = rw (kept_set track_stays k i t.items (unknown_goes i u))
    go false = refl
struck_set_tracks (suc j) k i (t ∷ ts) u = go (is_listed (described t)) (struck_set_tracks j k i ts u)
  where
    go : (b : Bool) → map struck_track (listed_of (set_in_track j k i ts)) ≡ map struck_track (listed_of ts)
        → map struck_track (pick b (t ∷ listed_of (set_in_track j k i ts)) (listed_of (set_in_track j k i ts))) ≡ map struck_track (pick b (t ∷ listed_of ts) (listed_of ts))
    go true rest = rw rest
    go false rest = rest

-- the bytes that they take
pub struck_tracks_size : (ts : List TrackParts) → inside-tracks.descriptions_size (map described (map struck_track (listed_of ts))) ≤ inside-tracks.descriptions_size (map described ts)
unfolding inside-tracks.descriptions_size listed_of described struck_track
struck_tracks_size [] = omega arith
struck_tracks_size (t ∷ ts) = go (is_listed (described t)) (struck_tracks_size ts)
  where
    go : (b : Bool) → inside-tracks.descriptions_size (map described (map struck_track (listed_of ts))) ≤ inside-tracks.descriptions_size (map described ts)
        → inside-tracks.descriptions_size (map described (map struck_track (pick b (t ∷ listed_of ts) (listed_of ts)))) ≤ 4 + length (items_bytes t.items) + inside-tracks.descriptions_size (map described ts)
    go true h = omega (arith, split.length-bytes t.items, split.length-bytes (kept track_stays t.items), kept_size track_stays t.items)
    go false h = omega arith

pub set_tracks_size : (j k : ℕ) (i : Item) (ts : List TrackParts) → j < length ts
    → inside-tracks.descriptions_size (map described (set_in_track j k i ts)) ≡ inside-tracks.descriptions_size (map described ts) + 2 + length i.value
unfolding inside-tracks.descriptions_size described set_in_track
set_tracks_size zero k i [] h = absurd (omega arith)
set_tracks_size (suc j) k i [] h = absurd (omega arith)
set_tracks_size zero k i (t ∷ ts) h = omega (arith, split.length-bytes t.items, split.length-bytes (set_at k i t.items), set_size k i t.items)
set_tracks_size (suc j) k i (t ∷ ts) h = omega (arith, set_tracks_size j k i ts (omega arith))

-- they are bytes
pub struck_tracks_bytes : (ts : List TrackParts) → AllBytes (tracks.descriptions_bytes (map described ts)) → AllBytes (tracks.descriptions_bytes (map described (map struck_track (listed_of ts))))
unfolding tracks.descriptions_bytes listed_of described struck_track
struck_tracks_bytes [] b = tt
struck_tracks_bytes (t ∷ ts) b = go (is_listed (described t)) (struck_tracks_bytes ts (bytes_right s rest (bytes_right (be_bytes 2 (length s)) (s ++ rest) b.1.1)))
  where
    s : List ℕ
    s = items_bytes t.items

    rest : List ℕ
    rest = tracks.descriptions_bytes (map described ts)

    go : (d : Bool) → AllBytes (tracks.descriptions_bytes (map described (map struck_track (listed_of ts)))) → AllBytes (tracks.descriptions_bytes (map described (map struck_track (pick d (t ∷ listed_of ts) (listed_of ts)))))
    go true h =
        let z = items_bytes (kept track_stays t.items) in
        let later = tracks.descriptions_bytes (map described (map struck_track (listed_of ts))) in (
          b.0,
          (
            b.1.0,
            bytes_join (be_bytes 2 (length z)) (z ++ later) (bytes_number 2 (length z))
                (bytes_join z later (kept_bytes track_stays t.items (bytes_left s rest (bytes_right (be_bytes 2 (length s)) (s ++ rest) b.1.1))) h),
          ),
        )
    go false h = h

pub set_tracks_bytes : (j k : ℕ) (i : Item) (ts : List TrackParts) → AllBytes (items_bytes (i ∷ [])) → AllBytes (tracks.descriptions_bytes (map described ts))
    → AllBytes (tracks.descriptions_bytes (map described (set_in_track j k i ts)))
unfolding tracks.descriptions_bytes described set_in_track
set_tracks_bytes zero k i [] h b = tt
set_tracks_bytes (suc j) k i [] h b = tt
set_tracks_bytes zero k i (t ∷ ts) h b =
    let s = items_bytes t.items in
    let rest = tracks.descriptions_bytes (map described ts) in
    let z = items_bytes (set_at k i t.items) in
    let d = bytes_right (be_bytes 2 (length s)) (s ++ rest) b.1.1 in
    (b.0, (b.1.0, bytes_join (be_bytes 2 (length z)) (z ++ rest) (bytes_number 2 (length z)) (bytes_join z rest (set_bytes k i t.items h (bytes_left s rest d)) (bytes_right s rest d))))
set_tracks_bytes (suc j) k i (t ∷ ts) h b =
    let s = items_bytes t.items in
    let rest = tracks.descriptions_bytes (map described ts) in
    let later = tracks.descriptions_bytes (map described (set_in_track j k i ts)) in
    let d = bytes_right (be_bytes 2 (length s)) (s ++ rest) b.1.1 in
    (b.0, (b.1.0, bytes_join (be_bytes 2 (length s)) (s ++ later) (bytes_number 2 (length s)) (bytes_join s later (bytes_left s rest d) (set_tracks_bytes j k i ts h (bytes_right s rest d)))))
