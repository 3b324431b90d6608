-- The aspect in a track's record follows from the record's type and from the bytes that it points at: a packet shows what its parts say, and there it is so by definition.
use Prim.Native.Nat.{ℕ, zero, suc, ◌+◌}
use mathlib.Core.Path.{◌≡◌, refl, sym, ap, subst, ◌∙◌}
use mathlib.Core.Bool.{true}
use mathlib.Core.List.{List, [], ◌∷◌, map}
use native.Mathlib.Omega.{arith}
use Rattle.std.specs.Prelude.{Option, Some, None, Result, Ok, Err, ⊤}
use Rattle.plate.specs.Part.{part}
use Rattle.map_aspect.specs.Aspect.{aspect_of}
use Rattle.map_aspect.specs.declared.Aspect.TheVariants.{Unknown}
use Rattle.map_aspect.proofs.Meaning.{none_shown}
use Rattle.map_answer.specs.Answer.{is_null, track_of}
use Rattle.map_answer.specs.declared.Track.{Track}
use Rattle.map_items.specs.declared.Part.{Part}
use Rattle.plate.specs.declared.Refusal.{Refusal}
use Rattle.map_tracks.specs.Tracks.{Placed, tracks_of, tracks_verdict, listed, record_of, kth_of, id_of}
use Rattle.map_tracks.proofs.ById.{id_numbered, number_own}
use Rattle.map.specs.Encode.{TrackParts}
use Rattle.map.specs.Map.{listed_in, map_verdict, on_track, on_kth, track_in, track_from, track_at}
use Rattle.map.specs.Parts.{listed_of, parts_of}
use Rattle.map.specs.View.{TrackView, track_view_in, view_in}
use Rattle.map.specs.Inside.{track_view_of_parts, view_of_parts}
use Rattle.map.specs.Aspect.{bytes_at, AspectIn, Follows, AllFollow, RecordAspects}
use Rattle.map.proofs.Parts.{accepted_sections}
use Rattle.map.proofs.ViewOfParts.{view_of_parts_lem}

of_parts : (ts : List TrackParts) → AllFollow (map track_view_of_parts ts)
unfolding track_view_of_parts
of_parts [] = tt
of_parts (t ∷ ts) = (refl, of_parts ts)

of_packet : (p : List ℕ) → AllFollow (view_in p).tracks
unfolding view_of_parts
of_packet p = subst (λ v. AllFollow v.tracks) (sym (view_of_parts_lem p)) (of_parts (listed_of (parts_of p).tracks))

-- a null name hides both
null_hides : (x : Placed) → is_null (record_of x).name ≡ true → ((record_of x).aux ≡ None) × ((record_of x).mpeg ≡ None) × ((record_of x).aspect ≡ Unknown)
unfolding record_of track_of
null_hides x e = rw e (refl, refl, none_shown.neither _)

module _ (p : List ℕ) where
  abbrev Shown : Placed → TrackView
  Shown x = track_view_in p (record_of x)

  -- of a record: what follows from its type and bytes
  of_record : (x : Placed) → Follows (Shown x) → AspectIn p (record_of x)
  unfolding track_view_in
  of_record x f =
      record {
        follows = f;
        no_text = λ m e. f ∙ ap (λ (y : Option Part). aspect_of (record_of x).media_type (bytes_at p (record_of x).aux) (bytes_at p y)) e ∙ none_shown.no_text _ _ m;
        no_bits = λ m e. f ∙ ap (λ (y : Option Part). aspect_of (record_of x).media_type (bytes_at p y) (bytes_at p (record_of x).mpeg)) e ∙ none_shown.no_bits _ _ m;
        null_name_lem = null_hides x;
      }

  -- the record by its number
  numbered : (k : ℕ) (xs : List Placed) (t : Track) → AllFollow (map Shown xs) → kth_of k xs ≡ Some t → AspectIn p t
  unfolding kth_of
  numbered k [] t a e = absurd (let z : ◌≡◌ {A = ℕ} 0 1 = cc in omega arith)
  numbered zero (x ∷ xs) t a e = let q : record_of x ≡ t = cc in subst (λ (y : Track). AspectIn p y) q (of_record x a.0)
  numbered (suc k) (x ∷ xs) t a e = numbered k xs t a.1 e

  -- what the reader gives is a record by its number
  given : (k : ℕ) (t : Track) (v : Result ⊤ Refusal) (x : Option Track) → on_track v (on_kth x) ≡ Ok t → x ≡ Some t
  given k t (Err r) x e = absurd (let z : ◌≡◌ {A = ℕ} 0 1 = cc in omega arith)
  given k t (Ok _) None e = absurd (let z : ◌≡◌ {A = ℕ} 0 1 = cc in omega arith)
  given k t (Ok _) (Some y) e = let q : y ≡ t = cc in ap Some q

  in_packet : (k : ℕ) (t : Track) → kth_of k (listed_in p) ≡ Some t → AspectIn p t
  unfolding view_in
  in_packet k t e = numbered k (listed_in p) t (of_packet p) e

-- the tracks of an accepted map have IDs that differ
own_id : (p : List ℕ) → map_verdict p ≡ (Ok tt) → (k : ℕ) (t : Track) → kth_of k (listed_in p) ≡ Some t → id_of t.id (listed_in p) ≡ Some t
unfolding listed_in tracks_verdict
own_id p v k t e =
    let s = accepted_sections p v in
    let a = s.a + 2 in
    let ds = tracks_of (part a s.e p) in
    let l : listed_in p ≡ listed a ds.list = rw s.layout in
    rw l (number_own [] a a ds.list ds.end s.tracks k t (rw l at e)).0

pub aspects : RecordAspects
unfolding track_at track_in
aspects =
    record {
      by_number = in_packet;
      shown = of_packet;
      by_id_lem = λ p id t e. id_numbered id (listed_in p) t e;
      id_of_lem = own_id;
      at_position = λ s at k w t q e.
          let p = part at (at + w.len) s in
          let f : track_in p k ≡ Ok t = sym (ap (track_from s at k) q) ∙ e in
          given p k t (map_verdict p) (kth_of k (listed_in p)) f;
    }
