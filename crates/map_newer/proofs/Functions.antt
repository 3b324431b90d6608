-- The proof of demand 3 through the functions: specs/Functions.antt has the statements.
use Prim.Native.Nat.{ℕ, zero, suc, ◌+◌, ◌-◌, ◌<◌, ◌≤◌}
use mathlib.Core.Path.{◌≡◌, refl, sym, ap, subst, ◌∙◌}
use mathlib.Core.Bool.{Bool, true, false}
use mathlib.Core.List.{List, [], ◌∷◌, ◌++◌, map}
use native.Mathlib.Omega.{arith}
use lib.ListN.{length, set, replicate}
use lib.Dec.{eqb}
use Rattle.std.specs.Prelude.{Option, Some, None, Result, Ok, Err}
use Rattle.plate.specs.Choice.{pick}
use Rattle.map_tracks.specs.Tracks.{Description, Placed, is_listed, listed, record_of, kth_of, id_of, byte_of, types_of}
use Rattle.map_tracks.specs.declared.Types.{Types}
use Rattle.plate.specs.Plate.{refusal}
use Rattle.field.specs.Field.{type_with}
use Rattle.map_items.specs.Items.{section_of}
use Rattle.map_items.specs.Find.{find}
use Rattle.map_answer.specs.Answer.{value_of, code_of, is_progressive, track_of}
use Rattle.map_answer.proofs.Laws.{value_anywhere}
use Rattle.map_answer.specs.declared.Track.{Track}
use Rattle.map.specs.declared.MapSays.{MapSays}
use Rattle.plate.specs.declared.Refusal.{Refusal}
use Rattle.plate.specs.declared.Fault.TheVariants as fault
use Rattle.map.specs.Map.{on_kth, material_says, listed_in, types_in, map_at, track_at}
use Rattle.map.specs.View.{track_view_in, view_in}
use Rattle.map_newer.specs.Strike.{strike, set_in}
use Rattle.map_newer.specs.Demand.{Accepted}
use Rattle.map_newer.specs.Functions.{ReadGives, TrackGives, view_of_track_outcome, kth_view, IdGives, TypesGives, IdOutcomeView, view_of_id_outcome, of_id, types_in_view, FillGives, Fills, Answers, Functions}
use Rattle.map_newer.proofs.Parts.{accepted_verdict, accepted_header}
use Rattle.map.proofs.Within.{part_there, packet_there, read_there, track_there}
use Rattle.map_records.specs.Fill.{records_at, answer_for, Filled}
use Rattle.map_records.proofs.Kept.{refused_stays, too_few, enough, beyond_stays, first_records}
use Rattle.map_newer.proofs.Demand.{remainder_accepted, remainder_alike, set_in_alike}

-- what the contracts allow is what the definitions give
read_gives : (m : List ℕ) (x : Result MapSays Refusal) (g : ReadGives m x) → x ≡ map_at (g.before ++ (m ++ g.after)) (length g.before)
read_gives m x g = rw (← g.bytes, ← g.position) g.post

track_gives : (m : List ℕ) (k : ℕ) (y : Result Track Refusal) (g : TrackGives m k y) → y ≡ track_at (g.before ++ (m ++ g.after)) (length g.before) k
track_gives m k y g = rw (← g.bytes, ← g.position, ← g.number) g.post

kth_seen : (m : List ℕ) (k : ℕ) (xs : List Placed) → view_of_track_outcome m (on_kth (kth_of k xs)) ≡ kth_view k (map (λ x. track_view_in m (record_of x)) xs)
unfolding kth_of kth_view
kth_seen m zero [] = refl
kth_seen m (suc k) [] = refl
kth_seen m zero (x ∷ xs) = refl
kth_seen m (suc k) (x ∷ xs) = kth_seen m k xs

-- so what `track` gives on an accepted map is the record of that number
pub track_numbered : (m : List ℕ) → Accepted m → (k : ℕ) (t : Track) → TrackGives m k (Ok t) → kth_of k (listed_in m) ≡ Some t
track_numbered m h k t g = go (kth_of k (listed_in m)) (track_gives m k (Ok t) g ∙ track_there g.before m g.after (accepted_header m h) (accepted_verdict m h) k)
  where
    go : (x : Option Track) → Ok t ≡ on_kth x → x ≡ Some t
    go (Some u) e = let q : t ≡ u = cc in ap Some (sym q)
    go None e = absurd (let z : ◌≡◌ {A = ℕ} 0 1 = cc in omega arith)

pub id_gives : (m : List ℕ) (id : ℕ) (y : Option Track) → IdGives m id y → y ≡ id_of id (listed_in m)
id_gives m id y g = rw (← g.bytes, ← g.track) g.post

types_gives : (m : List ℕ) (t : Types) → TypesGives m t → t.media_types ≡ types_in m
types_gives m t g = rw (← g.bytes) g.post

pub id_seen_lem : (m : List ℕ) (id : ℕ) (xs : List Placed) → view_of_id_outcome m (id_of id xs) ≡ of_id id (map (λ x. track_view_in m (record_of x)) xs)
unfolding id_of of_id track_view_in record_of track_of
id_seen_lem m id [] = refl
id_seen_lem m id (x ∷ xs) = go (eqb (x.track.id - 0xC0) id) (id_seen_lem m id xs)
  where
    go : (b : Bool) → view_of_id_outcome m (id_of id xs) ≡ of_id id (map (λ x. track_view_in m (record_of x)) xs)
        → view_of_id_outcome m (pick b (Some (record_of x)) (id_of id xs)) ≡ pick b (IdOutcomeView.holds (track_view_in m (record_of x))) (of_id id (map (λ x. track_view_in m (record_of x)) xs))
    go true e = refl
    go false e = e

types_seen : (m : List ℕ) (p : ℕ) (types : List ℕ) (ds : List Description) → types_of types ds ≡ types_in_view types (map (λ x. track_view_in m (record_of x)) (listed p ds))
unfolding types_of byte_of types_in_view listed track_view_in record_of track_of
types_seen m p types [] = refl
types_seen m p types (d ∷ ds) = rw (value_anywhere 0x52 0 (p + 4) (section_of d.items).list) (go (is_listed d) (λ t. types_seen m (p + 4 + length d.items) t ds))
  where
    byte : ℕ
    byte = type_with (is_progressive (code_of 0x52 (value_of (find 0x52 (p + 4) (section_of d.items).list)))) (d.type_byte - 0x80)

    go : (b : Bool) → ((t : List ℕ) → types_of t ds ≡ types_in_view t (map (λ x. track_view_in m (record_of x)) (listed (p + 4 + length d.items) ds)))
        → types_of (pick b (set types (d.id - 0xC0) byte) types) ds
        ≡ types_in_view types (map (λ x. track_view_in m (record_of x)) (pick b (record { at = p; track = d } ∷ listed (p + 4 + length d.items) ds) (listed (p + 4 + length d.items) ds)))
    go true e = e (set types (d.id - 0xC0) byte)
    go false e = e types

types_shown : (m : List ℕ) → types_in m ≡ types_in_view (replicate 64 0) (map (λ x. track_view_in m (record_of x)) (listed_in m))
unfolding types_in listed_in
types_shown m = types_seen m _ (replicate 64 0) _

-- a filling call
records_shown : (m : List ℕ) (xs : List Placed) → map (track_view_in m) (map record_of xs) ≡ map (λ x. track_view_in m (record_of x)) xs
records_shown m [] = refl
records_shown m (x ∷ xs) = rw (records_shown m xs)

module _ (m : List ℕ) (h : Accepted m) where
  says_there : (a b : List ℕ) → map_at (a ++ (m ++ b)) (length a) ≡ Ok (record { count = length (listed_in m); material = material_says m })
  says_there a b = read_there a m b (accepted_header m h) (accepted_verdict m h)

  records_there : (a b : List ℕ) → records_at (a ++ (m ++ b)) (length a) ≡ map record_of (listed_in m)
  unfolding records_at
  records_there a b = rw (packet_there a m b (accepted_header m h), part_there a m b)

  module _ (ys zs : List Track) (r : Result MapSays Refusal) (g : FillGives m ys r zs) where
    abbrev s : List ℕ
    s = g.before ++ (m ++ g.after)

    abbrev at : ℕ
    at = length g.before

    gives : r ≡ answer_for s at (length ys)
    unfolding Filled
    gives = g.filled.0

    short_call : length ys < length (listed_in m) → (r ≡ Err (refusal fault.Room 0)) × (zs ≡ ys)
    short_call k =
        let e : r ≡ Err (refusal fault.Room 0) = gives ∙ too_few s at (length ys) _ (says_there g.before g.after) k in
        (e, refused_stays ys s at (refusal fault.Room 0) zs (subst (λ (x : Result MapSays Refusal). Filled ys s at x zs) e g.filled))

    full_call : length (listed_in m) ≤ length ys → Fills m (view_in m) ys r zs
    unfolding view_in
    full_call k =
        let e : r ≡ Ok (record { count = length (listed_in m); material = material_says m }) = gives ∙ enough s at (length ys) _ (says_there g.before g.after) k in
        let f = subst (λ (x : Result MapSays Refusal). Filled ys s at x zs) e g.filled in
        record {
          answers = rw e;
          first = ap (λ (ts : List Track). map (track_view_in m) ts) (first_records ys s at _ zs f ∙ records_there g.before g.after) ∙ records_shown m (listed_in m);
          beyond = beyond_stays ys s at _ zs f;
        }

-- on an accepted map the functions give what the map shows
pub answers : (m : List ℕ) → Accepted m → Answers m (view_in m)
unfolding view_in
answers m h =
    record {
      read = λ x g. rw (read_gives m x g ∙ read_there g.before m g.after (accepted_header m h) (accepted_verdict m h));
      track = λ k y g. rw (track_gives m k y g ∙ track_there g.before m g.after (accepted_header m h) (accepted_verdict m h) k) (kth_seen m k (listed_in m));
      by_id_lem = λ id y g. rw (id_gives m id y g) (id_seen_lem m id (listed_in m));
      types = λ t g. types_gives m t g ∙ types_shown m;
      too_few = short_call m h;
      fill = full_call m h;
    }

pub functions : Functions
functions =
    record {
      one_answer = λ m h. (answers m h, rw (remainder_alike m h) (answers (strike m) (remainder_accepted m h)));
      set_in_lem = λ m h b i there u room. let s = set_in_alike m h b i there u room in rw s.1 (answers (set_in b i m) s.0);
    }
