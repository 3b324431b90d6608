-- What the contract of `fill` says of the lent records: a refused call leaves every one, those past the last stay, and the k-th is the k-th listed track's. 13 falls where fewer are lent than tracks are listed, after all other faults.
use Prim.Native.Nat.{ℕ, zero, suc, ◌+◌, ◌≤◌, ◌<◌}
use mathlib.Core.Path.{◌≡◌, refl, sym, ap, ◌∙◌}
use mathlib.Core.Bool.{Bool, true, false}
use mathlib.Core.List.{List, [], ◌∷◌, ◌++◌, map as each}
use native.Mathlib.Omega.{arith}
use lib.ListN.{length, get_or, take, drop}
use lib.Dec.{ltb}
use lib.Seq.{take-append_seam, drop-append_seam, get_or-take}
use borrow.Author.Tests.{ltb-false, lt-ltb, le-ltb, ltb-true}
use Rattle.std.specs.Prelude.{Result, Ok, Err, ⊤, None}
use Rattle.plate.specs.Choice.{pick}
use Rattle.plate.specs.Plate.{refusal, number}
use Rattle.plate.specs.declared.Refusal.{Refusal}
use Rattle.packet.specs.Packet.{packet_at}
use Rattle.map_answer.specs.declared.Track.{Track}
use Rattle.map_tracks.specs.Tracks.{Placed, record_of, kth_of}
use Rattle.map.specs.Map.{listed_in, material_says, map_verdict, on_verdict, on_track, on_kth, answer_of, map_from, map_at, track_in, track_from, track_at}
use Rattle.plate.specs.Part.{part}
use Rattle.map.specs.declared.MapSays.{MapSays}
use Rattle.packet.specs.declared.Packet.{Packet}
use Rattle.plate.specs.declared.Fault.TheVariants as fault
use Rattle.map_records.specs.Fill.{records_from, records_at, with_room, answer_for, lent_after, Filled}
use Rattle.map_records.proofs.Laws.{counted}
use Rattle.map.proofs.Numbers.{never_13}
use Rattle.map_aspect.specs.declared.Aspect.TheVariants as aspect
use Rattle.map_answer.specs.declared.Code.TheVariants as code

-- a record in which nothing is present: what stands for the record past the last
unfoldable pub blank : Track
blank =
    record {
      id = 0;
      media_type = 0;
      rate = code.Absent;
      lines = code.Absent;
      fields = code.Absent;
      version = None;
      name = None;
      aux = None;
      mpeg = None;
      aspect = aspect.Unknown;
    }

-- a refused call leaves every record
pub refused_stays : (ys : List Track) (s : List ℕ) (at : ℕ) (r : Refusal) (zs : List Track) → Filled ys s at (Err r) zs → zs ≡ ys
unfolding Filled lent_after
refused_stays ys s at r zs f = f.1 ∙ ap (λ (a : Result MapSays Refusal). lent_after (records_at s at) ys a) (sym f.0)

-- all other faults first; then the room
pub others_first : (s : List ℕ) (at room : ℕ) (r : Refusal) → map_at s at ≡ Err r → answer_for s at room ≡ Err r
unfolding answer_for
others_first s at room r e = rw e

pub too_few : (s : List ℕ) (at room : ℕ) (m : MapSays) → map_at s at ≡ Ok m → room < m.count → answer_for s at room ≡ Err (refusal fault.Room 0)
unfolding answer_for
too_few s at room m e h = rw e (simp (lt-ltb _ _ h))

pub enough : (s : List ℕ) (at room : ℕ) (m : MapSays) → map_at s at ≡ Ok m → m.count ≤ room → answer_for s at room ≡ Ok m
unfolding answer_for
enough s at room m e h = rw e (simp (le-ltb _ _ h))

-- an accepted call: the map's own answer, which no more tracks lists than are lent
accepted : (s : List ℕ) (at room : ℕ) (m : MapSays) → answer_for s at room ≡ Ok m → (map_at s at ≡ Ok m) × (m.count ≤ room)
unfolding answer_for
accepted s at room m = go (map_at s at)
  where
    roomy : (n : MapSays) (b : Bool) → ltb room n.count ≡ b → pick b (Err (refusal fault.Room 0)) (Ok n) ≡ Ok m → ◌≡◌ {A = Result MapSays Refusal} (Ok n) (Ok m) × (m.count ≤ room)
    roomy n true q e = absurd (let z : ◌≡◌ {A = ℕ} 0 1 = cc in omega arith)
    roomy n false q e = let k : n.count ≡ m.count = cc in (e, omega (arith, ltb-false room n.count q))

    go : (a : Result MapSays Refusal) → with_room room a ≡ Ok m → (a ≡ Ok m) × (m.count ≤ room)
    go (Err r) e = absurd (let z : ◌≡◌ {A = ℕ} 0 1 = cc in omega arith)
    go (Ok n) e = roomy n (ltb room n.count) refl e

kth_first : (x : Placed) (xs : List Placed) → on_kth (kth_of zero (x ∷ xs)) ≡ Ok (record_of x)
unfolding kth_of
kth_first x xs = refl

kth_later : (j : ℕ) (x : Placed) (xs : List Placed) → on_kth (kth_of (suc j) (x ∷ xs)) ≡ on_kth (kth_of j xs)
unfolding kth_of
kth_later j x xs = refl

-- of a map that is accepted, the record by value of the k-th listed track
by_value : (s : List ℕ) (at : ℕ) (m : MapSays) (k : ℕ) → k < m.count → map_at s at ≡ Ok m → track_at s at k ≡ Ok (get_or (records_at s at) k blank)
unfolding map_at answer_of records_at track_at track_in
by_value s at m k h = go (packet_at s at 0xBC)
  where
    in_list : (j : ℕ) (xs : List Placed) → j < length xs → on_kth (kth_of j xs) ≡ Ok (get_or (each record_of xs) j blank)
    in_list j [] l = absurd (omega arith)
    in_list zero (x ∷ xs) l = kth_first x xs
    in_list (suc j) (x ∷ xs) l = kth_later j x xs ∙ in_list j xs (omega arith)

    in_packet : (p : List ℕ) (v : Result ⊤ Refusal) → on_verdict v (Ok (record { count = length (listed_in p); material = material_says p })) ≡ Ok m
        → on_track v (on_kth (kth_of k (listed_in p))) ≡ Ok (get_or (each record_of (listed_in p)) k blank)
    in_packet p (Ok _) e = let c : m.count ≡ length (listed_in p) = cc in in_list k (listed_in p) (omega arith)
    in_packet p (Err r) e = absurd (let z : ◌≡◌ {A = ℕ} 0 1 = cc in omega arith)

    go : (a : Result Packet Refusal) → map_from s at a ≡ Ok m → track_from s at k a ≡ Ok (get_or (records_from s at a) k blank)
    go (Err r) e = absurd (let z : ◌≡◌ {A = ℕ} 0 1 = cc in omega arith)
    go (Ok w) e = in_packet (part at (at + w.len) s) (map_verdict (part at (at + w.len) s)) e

any : (ts : List Track) (k : ℕ) (x y : Track) → k < length ts → get_or ts k x ≡ get_or ts k y
any [] k x y h = absurd (omega arith)
any (t ∷ ts) zero x y h = refl
any (t ∷ ts) (suc k) x y h = any ts k x y (omega arith)

module _ (ys : List Track) (s : List ℕ) (at : ℕ) (m : MapSays) (zs : List Track) (f : Filled ys s at (Ok m) zs) where
  first_listed : zs ≡ records_at s at ++ drop (length (records_at s at)) ys
  unfolding Filled lent_after
  first_listed = f.1 ∙ ap (λ (a : Result MapSays Refusal). lent_after (records_at s at) ys a) (sym f.0)

  says : (map_at s at ≡ Ok m) × (m.count ≤ length ys)
  unfolding Filled
  says = accepted s at (length ys) m (sym f.0)

  -- the count is the number of listed tracks, and no more than were lent
  pub count_listed : (m.count ≡ length (records_at s at)) × (m.count ≤ length ys)
  count_listed = (counted s at m says.0, says.1)

  -- records past the last listed track stay
  pub beyond_stays : drop m.count zs ≡ drop m.count ys
  beyond_stays = rw (first_listed, count_listed.0) (drop-append_seam (records_at s at) _)

  -- the first are the records of the listed tracks
  pub first_records : take m.count zs ≡ records_at s at
  first_records = rw (first_listed, count_listed.0) (take-append_seam (records_at s at) _)

  record_in : (k : ℕ) → k < m.count → get_or zs k blank ≡ get_or (records_at s at) k blank
  record_in k h =
      rw first_listed (sym (get_or-take (length (records_at s at)) _ k blank (omega (arith, count_listed.0))) ∙ ap (λ (l : List Track). get_or l k blank) (take-append_seam (records_at s at) _))

  -- the k-th record is what the reader by value gives of the k-th listed track
  pub kth_is : (k : ℕ) → k < m.count → track_at s at k ≡ Ok (get_or zs k blank)
  kth_is k h = rw (record_in k h) (by_value s at m k h says.0)

  -- whatever stands for a record that is not there
  pub kth_any : (k : ℕ) → k < m.count → (y : Track) → track_at s at k ≡ Ok (get_or zs k y)
  kth_any k h y =
      kth_is k h
      ∙ ap Ok
      (record_in k h
      ∙ any (records_at s at) k blank y (omega (arith, count_listed.0))
      ∙ sym (rw first_listed (sym (get_or-take (length (records_at s at)) _ k y (omega (arith, count_listed.0))) ∙ ap (λ (l : List Track). get_or l k y) (take-append_seam (records_at s at) _))))

-- 13 falls only there: no map is refused with it
pub record Short (s : List ℕ) (at room : ℕ) : Type 0 where
  pub map_says : MapSays
  pub accepted_map : map_at s at ≡ Ok map_says
  pub fewer : room < map_says.count

pub thirteen : (s : List ℕ) (at room : ℕ) (r : Refusal) → answer_for s at room ≡ Err r → number r ≡ 13 → Short s at room
unfolding answer_for
thirteen s at room r e n = go (map_at s at) refl e
  where
    roomy : (m : MapSays) → map_at s at ≡ Ok m → (b : Bool) → ltb room m.count ≡ b → pick b (Err (refusal fault.Room 0)) (Ok m) ≡ Err r → Short s at room
    roomy m q true t f = record { map_says = m; accepted_map = q; fewer = ltb-true room m.count t }
    roomy m q false t f = absurd (let z : ◌≡◌ {A = ℕ} 0 1 = cc in omega arith)

    go : (a : Result MapSays Refusal) → map_at s at ≡ a → with_room room a ≡ Err r → Short s at room
    go (Err t) q f = let k : number t ≡ (number r) = cc in absurd (never_13 s at t q (k ∙ n))
    go (Ok m) q f = roomy m q (ltb room m.count) refl f
