-- What was written is what the readers give: specs/Readers.antt has the statement.
use Prim.Native.Nat.{ℕ, zero, suc, ◌/◌, ◌≤◌, ◌<◌}
use mathlib.Core.Path.{◌≡◌, refl, sym, ◌∙◌, ap}
use mathlib.Core.List.{List, [], ◌∷◌, ◌++◌, map}
use native.Mathlib.Omega.{arith}
use native.Mathlib.Nat.{add-sub_cancel_left}
use lib.ListN.{length, take, drop, length-map}
use lib.Seq.{take-append_seam, drop-append_seam}
use contract.Lifetimes.{Lfts}
use borrow.Fn.Kinds.{ended_of, Dens}
use denote.Triple.Clauses.{AtExit}
use Rattle.std.specs.Prelude.{Result, Ok, Err}
use Rattle.plate.specs.Plate.{refusal}
use Rattle.packet.specs.Packet.{packet_at}
use Rattle.map_answer.specs.declared.Track.{Track}
use Rattle.map_tracks.specs.Tracks.{Placed, record_of, kth_of}
use Rattle.map.specs.Map.{listed_in, material_says, map_at, track_at, on_kth}
use Rattle.map.specs.declared.MapSays.{MapSays}
use Rattle.plate.specs.declared.Refusal.{Refusal}
use Rattle.plate.specs.declared.Fault.TheVariants as fault
use Rattle.map.specs.View.{MapView, TrackView, track_view_in, view_in}
use Rattle.map_records.specs.Fill.{records_at, answer_for, lent_after, Filled}
use Rattle.map_records.proofs.Kept.{enough, too_few}
use Rattle.map_given.proofs.Clean.{Clean, clean}
use Rattle.map_writer.specs.ViewGiven.{view_given}
use Rattle.map_writer.specs.Meaning.{Codes, codes_given, codes_read}
use Rattle.map_writer.specs.Readers.{ReadGives, TrackGives, Says, KthIs, Readers}
use Rattle.map_writer.specs.Write.{map_packet, map_written_answer, map_written_in}
use Rattle.map_writer.proofs.Meaning.{codes_shown, codes_told}
use Rattle.map_writer.proofs.RoundTrip.{answered, round_trip}
use Rattle.map_writer.specs.ReadBack.{ReadBack}
use Rattle.map_writer.proofs.write.Kinds as kinds
use Rattle.map_writer.proofs.write.Reads as reads

-- what the contracts allow is what the definitions give
read_gives : (now : List ℕ) (at : ℕ) (x : Result MapSays Refusal) → ReadGives now at x → x ≡ map_at now at
read_gives now at x g = rw (← g.bytes, ← g.place) g.post

track_gives : (now : List ℕ) (at k : ℕ) (y : Result Track Refusal) → TrackGives now at k y → y ≡ track_at now at k
track_gives now at k y g = rw (← g.bytes, ← g.place, ← g.number) g.post

-- the k-th record is the k-th of what the records are read as
kth_is : {A : Type 0} (f : Track → A) (k : ℕ) (xs : List Placed) → KthIs f (map f (map record_of xs)) k (on_kth (kth_of k xs))
unfolding kth_of
kth_is f zero [] = refl
kth_is f (suc k) [] = refl
kth_is f zero (x ∷ xs) = refl
kth_is f (suc k) (x ∷ xs) = kth_is f k xs

shown_records : (p : List ℕ) (xs : List Placed) → map (λ x. track_view_in p (record_of x)) xs ≡ map (track_view_in p) (map record_of xs)
shown_records p [] = refl
shown_records p (x ∷ xs) = ap (λ (l : List TrackView). track_view_in p (record_of x) ∷ l) (shown_records p xs)

codes_shown_lem : (p : List ℕ) (rs : List Track) → map codes_read rs ≡ map codes_shown (map (track_view_in p) rs)
unfolding codes_read codes_shown track_view_in
codes_shown_lem p [] = refl
codes_shown_lem p (r ∷ rs) = ap (λ (l : List Codes). codes_read r ∷ l) (codes_shown_lem p rs)

module _ (out : List ℕ) (at : ℕ) (text ms ts : List ℕ) (n : ℕ) (now : List ℕ) (b : ReadBack out at text ms ts n now) (c : Clean text ms ts) where
  abbrev p : List ℕ
  p = map_packet text ms ts

  abbrev rs : List Track
  rs = map record_of (listed_in p)

  abbrev m : MapSays
  m = record { count = length (listed_in p); material = material_says p }

  count : length (listed_in p) ≡ length ts / 23
  unfolding view_in view_given
  count = ap (λ (s : MapView). s.count) b.view

  says : Says p (view_given text ms ts) (Ok m)
  unfolding view_in
  says = (ap (λ (s : MapView). s.count) b.view, ap (λ (s : MapView). s.material) b.view)

  tracks : map (track_view_in p) rs ≡ (view_given text ms ts).tracks
  unfolding view_in
  tracks = sym (shown_records p (listed_in p)) ∙ ap (λ (s : MapView). s.tracks) b.view

  codes : map codes_read rs ≡ codes_given (length ts / 23) ts 0
  unfolding view_given
  codes = codes_shown_lem p rs ∙ ap (map codes_shown) tracks ∙ codes_told text ts (length ts / 23) 0 c.tracks

  -- the packet's records are what is found there
  records : records_at now at ≡ rs
  unfolding records_at packet_at
  records = simp (b.header, add-sub_cancel_left, b.stands)

  many : length rs ≡ length ts / 23
  many = length-map (listed_in p) record_of ∙ count

  filled : (ys zs : List Track) (r : Result MapSays Refusal) → Filled ys now at r zs → length ts / 23 ≤ length ys
      → Says p (view_given text ms ts) r × (map (track_view_in p) (take (length ts / 23) zs) ≡ (view_given text ms ts).tracks)
      × (map codes_read (take (length ts / 23) zs) ≡ codes_given (length ts / 23) ts 0)
      × (drop (length ts / 23) zs ≡ drop (length ts / 23) ys)
  unfolding Filled lent_after
  filled ys zs r f h =
      let a : answer_for now at (length ys) ≡ Ok m = enough now at (length ys) m b.read (omega (arith, count)) in
      let e : r ≡ Ok m = f.0 ∙ a in
      let z : zs ≡ rs ++ drop (length rs) ys = f.1 ∙ rw (a, records) in
      let t : take (length ts / 23) zs ≡ rs = rw (z, ← many) (take-append_seam rs (drop (length rs) ys)) in
      let d : drop (length ts / 23) zs ≡ drop (length ts / 23) ys = rw (z, ← many) (drop-append_seam rs (drop (length rs) ys)) in
      rw (e, t) (says, tracks, codes, d)

  fewer : (ys zs : List Track) (r : Result MapSays Refusal) → Filled ys now at r zs → length ys < length ts / 23 → (r ≡ Err (refusal fault.Room 0)) × (zs ≡ ys)
  unfolding Filled lent_after
  fewer ys zs r f h =
      let a = too_few now at (length ys) m b.read (omega (arith, count)) in
      (f.0 ∙ a, f.1 ∙ rw a)

  pub readers : Readers now at n text ms ts
  readers =
      record {
        read = λ x g. rw (b.stands, read_gives now at x g ∙ b.read) says;
        track = λ k y g. rw (b.stands, track_gives now at k y g ∙ b.track k, ← tracks) (kth_is (track_view_in p) k (listed_in p));
        codes = λ k y g. rw (track_gives now at k y g ∙ b.track k, ← codes) (kth_is codes_read k (listed_in p));
        fill = λ ys zs r f h. rw b.stands (filled ys zs r f h);
        few = fewer;
      }

-- after a call of `write` that answered with a length
pub write_then_read : (κs : Lfts 4) (a : Dens κs kinds.ps) (n : ℕ) (s : AtExit (ended_of 4 kinds.ps kinds.r) κs)
    → reads.Post κs a (Ok n) s → Readers s.0.now a.1.0 n a.1.1.0.now a.1.1.1.0.now a.1.1.1.1.0.now
write_then_read κs a n s q =
    let out = a.0.now in let at = a.1.0 in let text = a.1.1.0.now in let ms = a.1.1.1.0.now in let ts = a.1.1.1.1.0.now in
    let e : map_written_answer out at text ms ts ≡ Ok n = sym q.0 in
    rw q.1 (readers out at text ms ts n (map_written_in out at text ms ts) (round_trip out at text ms ts n e) (clean text ms ts (answered out at text ms ts n e).none))
