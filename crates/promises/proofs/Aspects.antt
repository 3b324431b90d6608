-- The page of the aspect: what the crates proved, and through the contracts.
use Prim.Native.Nat.{ℕ, zero, suc, ◌+◌, ◌≤◌}
use mathlib.Core.Path.{◌≡◌, refl, sym, ap, ◌∙◌}
use mathlib.Core.List.{List, [], ◌∷◌, map}
use lib.ListN.{length, take, drop}
use Rattle.std.specs.Prelude.{Option, Some, Result, Ok, Err}
use Rattle.plate.specs.Part.{part}
use Rattle.packet.specs.Packet.{type_map, packet_at}
use Rattle.packet.specs.declared.Packet.{Packet}
use Rattle.map_aspect.specs.Aspect.{by_answer, text_aspect, aspect_of}
use Rattle.map_aspect.specs.Meaning.{Mpeg}
use Rattle.map_aspect.specs.declared.Aspect.{Aspect}
use Rattle.map_aspect.specs.declared.Aspect.TheVariants.{Unknown}
use Rattle.map_aspect.proofs.Meaning.{by_text, aspect_says, none_shown}
use Rattle.map_answer.specs.declared.Track.{Track}
use Rattle.map.specs.declared.MapSays.{MapSays}
use Rattle.mpeg_parameter.specs.declared.Parameters.{Parameters as AllParameters}
use Rattle.plate.specs.declared.Refusal.{Refusal}
use Rattle.map_tracks.proofs.AnyText.{any_text}
use Rattle.map.specs.Map.{track_at}
use Rattle.map.specs.View.{TrackView, MapView, track_view_in, view_in}
use Rattle.map.specs.Aspect.{AspectIn}
use Rattle.map.proofs.Aspect as record-aspects
use Rattle.map_records.proofs.Kept.{kth_any}
use Rattle.map_newer.specs.Demand.{Accepted, Alike}
use Rattle.map_newer.specs.Functions as newer
use Rattle.map_newer.specs.Functions.{TrackOutcomeView, IdOutcomeView}
use Rattle.map_newer.proofs.Parts.{accepted_verdict}
use Rattle.map_newer.proofs.Functions.{answers, id_gives, track_numbered}
use Rattle.map_writer.specs.ViewGiven.{view_given}
use Rattle.map_writer.specs.Readers.{KthIs}
use Rattle.paper_readings.specs.Calls.{Parameters}
use Rattle.paper_readings.proofs.Calls.{track_is}
use Rattle.paper_readings.proofs.Given.{parameters_is}
use Rattle.paper_readings.proofs.Aspects.{aspects_agree}
use Rattle.promises.specs.Aspects.{aspects_of, aspects_shown, Aspects}
use Rattle.promises.proofs.ReadsBack.{reads_back}

-- what the reader gives at a position has it
of_position : (s : List ℕ) (at k : ℕ) (w : Packet) (t : Track) → packet_at s at type_map ≡ Ok w → track_at s at k ≡ Ok t → AspectIn (part at (at + w.len) s) t
of_position s at k w t q e = (record-aspects.aspects).by_number (part at (at + w.len) s) k t ((record-aspects.aspects).at_position s at k w t q e)

-- the k-th record shows its aspect as it shows all else
kth_aspect : (p : List ℕ) (vs : List TrackView) (k : ℕ) (y : Result Track Refusal) → KthIs (track_view_in p) vs k y → KthIs (λ t. t.aspect) (aspects_shown vs) k y
unfolding track_view_in
kth_aspect p [] k y e = e
kth_aspect p (v ∷ vs) zero (Ok t) e = ap (λ (x : TrackView). x.aspect) e
kth_aspect p (v ∷ vs) zero (Err r) e = e
kth_aspect p (v ∷ vs) (suc k) y e = kth_aspect p vs k y e

-- what a record that is given shows
track_seen : TrackOutcomeView → Aspect
track_seen (TrackOutcomeView.holds v) = v.aspect
track_seen (TrackOutcomeView.refused r) = Unknown

id_seen : IdOutcomeView → Aspect
id_seen (IdOutcomeView.holds v) = v.aspect
id_seen IdOutcomeView.nothing = Unknown

each_seen : (m : List ℕ) (ts : List Track) → aspects_shown (map (track_view_in m) ts) ≡ aspects_of ts
unfolding track_view_in
each_seen m [] = refl
each_seen m (t ∷ ts) = ap (λ (as' : List Aspect). t.aspect ∷ as') (each_seen m ts)

-- of two accepted maps that answer alike
module _ (m n : List ℕ) (h : Accepted m) (i : Accepted n) (same : Alike m n) where
  by_track : (k : ℕ) (t u : Track) → newer.TrackGives m k (Ok t) → newer.TrackGives n k (Ok u) → t.aspect ≡ u.aspect
  unfolding track_seen track_view_in
  by_track k t u g q =
      ap track_seen ((answers m h).track k (Ok t) g) ∙ ap (λ (v : MapView). track_seen (newer.kth_view k v.tracks)) same ∙ sym (ap track_seen ((answers n i).track k (Ok u) q))

  by_id_lem : (id : ℕ) (t u : Track) → newer.IdGives m id (Some t) → newer.IdGives n id (Some u) → t.aspect ≡ u.aspect
  unfolding id_seen track_view_in
  by_id_lem id t u g q =
      ap id_seen ((answers m h).by_id_lem id (Some t) g) ∙ ap (λ (v : MapView). id_seen (newer.of_id id v.tracks)) same ∙ sym (ap id_seen ((answers n i).by_id_lem id (Some u) q))

  lent : (ys zs us vs : List Track) (r q : Result MapSays Refusal) → newer.FillGives m ys r zs → newer.FillGives n us q vs → (view_in m).count ≤ length ys → (view_in n).count ≤ length us
      → aspects_of (take (view_in m).count zs) ≡ aspects_of (take (view_in n).count vs)
  lent ys zs us vs r q f g k l =
      sym (each_seen m (take (view_in m).count zs)) ∙ ap aspects_shown ((answers m h).fill ys zs r f k).first ∙ ap (λ (v : MapView). aspects_shown v.tracks) same
      ∙ sym (sym (each_seen n (take (view_in n).count vs)) ∙ ap aspects_shown ((answers n i).fill us vs q g l).first)

-- by number and by ID
one : (m : List ℕ) → Accepted m → (k : ℕ) (t : Track) → newer.TrackGives m k (Ok t) → (y : Option Track) → newer.IdGives m t.id y → y ≡ Some t
one m h k t g y i = id_gives m t.id y i ∙ (record-aspects.aspects).id_of_lem m (accepted_verdict m h) k t (track_numbered m h k t g)

-- a text that reads or does not
by_reader : (media_type : ℕ) (aux text : List ℕ) → Mpeg media_type → (x : Result AllParameters Refusal) → Parameters text x → aspect_of media_type aux text ≡ by_answer x
unfolding text_aspect
by_reader t aux text m x g = by_text t aux text m ∙ sym (ap by_answer (parameters_is text x g))

pub aspects : Aspects
aspects =
    record {
      says = aspect_says;
      none_shown = none_shown;
      reader = by_reader;
      any_text = any_text;
      read_so = aspects_agree;
      records = record-aspects.aspects;
      track = λ s at k w q t g. of_position s at k w t q (sym (track_is s at k _ g));
      by_id_lem = λ p id t g. let r = (record-aspects.aspects).by_id_lem p id t (sym (id_gives p id (Some t) g)) in (record-aspects.aspects).by_number p r.0 t r.1;
      fill = λ ys zs s at m f k h y. let e = kth_any ys s at m zs f k h y in (λ x g. track_is s at k x g ∙ e, λ w q. of_position s at k w _ q e);
      one_record = one;
      alike_track = by_track;
      alike_id = by_id_lem;
      alike_fill = lent;
      written = λ out at text ms ts n o g k y z. kth_aspect (take n (drop at o)) (view_given text ms ts).tracks k y ((reads_back.map_readers out at text ms ts n o g).track k y z);
    }
