-- At most 64 tracks: accepted tracks have different IDs from C0 to FF.
use Prim.Native.Nat.{ℕ, zero, suc, ◌+◌, ◌*◌, ◌≤◌, ◌<◌}
use mathlib.Core.Path.{◌≡◌, refl, ap}
use mathlib.Core.Bool.{Bool, true, false}
use mathlib.Core.List.{List, [], ◌∷◌}
use native.Mathlib.Omega.{arith}
use lib.ListN.{length, take, drop}
use lib.Dec.{leb}
use Rattle.std.specs.Prelude.{Ok}
use Rattle.plate.specs.Choice.{pick}
use Rattle.plate.specs.Ended.{none, in_front}
use Rattle.number.proofs.Bytes.{AllBytes, bytes_drop}
use Rattle.map_items.proofs.Few.{Fresh, Between, few}
use Rattle.map_tracks.specs.Tracks.{Description, End, hangs, split_tracks, tracks_of, judge_tracks, tracks_verdict, is_listed, listed}
use Rattle.map_tracks.proofs.Anywhere.{passed}

-- the IDs of tracks
abbrev pub ids_of : List Description → List ℕ
ids_of [] = []
ids_of (d ∷ ds) = d.id ∷ ids_of ds

-- ID bytes are bytes
abbrev pub ByteIds : List Description → Type 0
ByteIds [] = Unit {0}
ByteIds (d ∷ ds) = (d.id < 256) × ByteIds ds

as_many : (ds : List Description) → length (ids_of ds) ≡ length ds
as_many [] = refl
as_many (d ∷ ds) = ap suc (as_many ds)

accepted_fresh : (ids : List ℕ) (p : ℕ) (ds : List Description) (e : End) → judge_tracks ids p ds e ≡ (Ok tt) → Fresh ids (ids_of ds)
accepted_fresh ids p [] e h = tt
accepted_fresh ids p (d ∷ ds) e h =
    let w = passed ids p d ds e h in (w.fresh, accepted_fresh (d.id ∷ ids) (p + 4 + length d.items) ds e w.rest)

accepted_between : (ids : List ℕ) (p : ℕ) (ds : List Description) (e : End) → ByteIds ds → judge_tracks ids p ds e ≡ (Ok tt) → Between 0xC0 64 (ids_of ds)
accepted_between ids p [] e b h = tt
accepted_between ids p (d ∷ ds) e b h =
    let w = passed ids p d ds e h in (w.id, b.0, accepted_between (d.id ∷ ids) (p + 4 + length d.items) ds e b.1 w.rest)

pub judged_64 : (p : ℕ) (ds : List Description) (e : End) → ByteIds ds → judge_tracks [] p ds e ≡ (Ok tt) → length ds ≤ 64
judged_64 p ds e b h = rw (← as_many ds) (few 0xC0 64 (ids_of ds) (accepted_fresh [] p ds e h) (accepted_between [] p ds e b h))

-- no more tracks are listed than there are
pub listed_few : (p : ℕ) (ds : List Description) → length (listed p ds) ≤ length ds
unfolding listed
listed_few p [] = omega arith
listed_few p (d ∷ ds) = go (is_listed d) (listed_few (p + 4 + length d.items) ds)
  where
    go : (b : Bool) → length (listed (p + 4 + length d.items) ds) ≤ length ds
        → length (pick b (record { at = p; track = d } ∷ listed (p + 4 + length d.items) ds) (listed (p + 4 + length d.items) ds)) ≤ suc (length ds)
    go true h = omega arith
    go false h = omega arith

split_ids : (f : ℕ) (s : List ℕ) → AllBytes s → ByteIds (split_tracks f s).list
unfolding split_tracks
split_ids zero s b = tt
split_ids (suc f) [] b = tt
split_ids (suc f) (k ∷ []) b = tt
split_ids (suc f) (k ∷ i ∷ []) b = tt
split_ids (suc f) (k ∷ i ∷ m ∷ []) b = tt
split_ids (suc f) (k ∷ i ∷ m ∷ l ∷ s) b = go (leb (m * 256 + l) (length s)) (split_ids f (drop (m * 256 + l) s) (bytes_drop (m * 256 + l) s b.1.1.1.1))
  where
    go : (t : Bool) → ByteIds (split_tracks f (drop (m * 256 + l) s)).list
        → ByteIds (pick t (in_front (record { type_byte = k; id = i; items = take (m * 256 + l) s }) (split_tracks f (drop (m * 256 + l) s))) (none (hangs k i))).list
    go true r = (b.1.0, r)
    go false r = tt

byte_ids : (s : List ℕ) → AllBytes s → ByteIds (tracks_of s).list
unfolding tracks_of
byte_ids s b = split_ids (suc (length s)) s b

pub section_64 : (s : List ℕ) (base p : ℕ) → AllBytes s → tracks_verdict s base ≡ (Ok tt) → length (listed p (tracks_of s).list) ≤ 64
unfolding tracks_verdict
section_64 s base p b h =
    let m = judged_64 base (tracks_of s).list (tracks_of s).end (byte_ids s b) h in
    omega (arith, listed_few p (tracks_of s).list)
