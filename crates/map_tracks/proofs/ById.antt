-- By its ID a listed track is one of those by number; and of accepted tracks, whose IDs differ, each of those is found by its ID.
use Prim.Native.Nat.{ℕ, zero, suc, ◌+◌, ◌-◌, ◌≤◌}
use mathlib.Core.Path.{◌≡◌, refl, sym, ap, ◌∙◌}
use mathlib.Core.Bool.{Bool, true, false}
use mathlib.Core.List.{List, [], ◌∷◌}
use native.Mathlib.Omega.{arith}
use lib.ListN.{length}
use lib.Dec.{eqb}
use borrow.Author.Tests.{eqb-true, eqb-false, eq-eqb, ne_eqb}
use Rattle.std.specs.Prelude.{Some, Ok}
use Rattle.plate.specs.Choice.{pick}
use Rattle.map_items.specs.Judge.{has}
use Rattle.map_answer.specs.Answer.{track_of}
use Rattle.map_answer.specs.declared.Track.{Track}
use Rattle.map_tracks.specs.Tracks.{Description, Placed, End, is_listed, listed, record_of, kth_of, id_of, judge_tracks}
use Rattle.map_tracks.proofs.Anywhere.{Passed, passed}

-- the record by its ID has a number
pub id_numbered : (id : ℕ) (xs : List Placed) (t : Track) → id_of id xs ≡ Some t → (k : ℕ) × (kth_of k xs ≡ Some t) × (t.id ≡ id)
unfolding id_of kth_of record_of track_of
id_numbered id [] t e = absurd (let z : ◌≡◌ {A = ℕ} 0 1 = cc in omega arith)
id_numbered id (x ∷ xs) t e = go (eqb (x.track.id - 0xC0) id) refl e (id_numbered id xs t)
  where
    go : (b : Bool) → eqb (x.track.id - 0xC0) id ≡ b → pick b (Some (record_of x)) (id_of id xs) ≡ Some t
        → (id_of id xs ≡ Some t → (k : ℕ) × (kth_of k xs ≡ Some t) × (t.id ≡ id))
        → (k : ℕ) × (kth_of k (x ∷ xs) ≡ Some t) × (t.id ≡ id)
    go true q e f = let r : record_of x ≡ t = cc in (0, e, sym (ap (λ (y : Track). y.id) r) ∙ eqb-true _ _ q)
    go false q e f = let r = f e in (suc r.0, r.1, r.2)

-- an ID that is not among more is not among fewer, and is none of those before
pub not_among : (n m : ℕ) (ms : List ℕ) → has n (m ∷ ms) ≡ false → (has n ms ≡ false) × (n ≡ m → ⊥)
unfolding has
not_among n m ms = go (eqb n m) refl
  where
    go : (b : Bool) → eqb n m ≡ b → pick b true (has n ms) ≡ false → (has n ms ≡ false) × (n ≡ m → ⊥)
    go true q e = absurd (let z : ◌≡◌ {A = ℕ} 0 1 = cc in omega arith)
    go false q e = (e, eqb-false n m q)

-- after tracks of these IDs: the record of that number is the one of its ID, and its ID is new
abbrev Own : List ℕ → List Placed → Track → Type 0
Own ids xs t = (id_of t.id xs ≡ Some t) × (has (t.id + 0xC0) ids ≡ false)

front : (ids : List ℕ) (x : Placed) (xs : List Placed) (t : Track) → 0xC0 ≤ x.track.id → has x.track.id ids ≡ false → Some (record_of x) ≡ Some t → Own ids (x ∷ xs) t
unfolding id_of record_of track_of
front ids x xs t h f e =
    let r : record_of x ≡ t = cc in
    let i : x.track.id - 0xC0 ≡ t.id = ap (λ (y : Track). y.id) r in
    let s : t.id + 0xC0 ≡ x.track.id = omega (arith, i, h) in
    (rw (eq-eqb (x.track.id - 0xC0) t.id i) e, rw s f)

behind : (ids : List ℕ) (x : Placed) (xs : List Placed) (t : Track) → 0xC0 ≤ x.track.id → Own (x.track.id ∷ ids) xs t → Own ids (x ∷ xs) t
unfolding id_of
behind ids x xs t h o =
    let n = not_among (t.id + 0xC0) x.track.id ids o.1 in
    (rw (ne_eqb (x.track.id - 0xC0) t.id (λ q. n.1 (omega (arith, q, h)))) o.0, n.0)

pub number_own : (ids : List ℕ) (p q : ℕ) (ds : List Description) (e : End) → judge_tracks ids p ds e ≡ (Ok tt) → (k : ℕ) (t : Track) → kth_of k (listed q ds) ≡ Some t → Own ids (listed q ds) t
unfolding listed kth_of
number_own ids p q [] e a k t r = absurd (let z : ◌≡◌ {A = ℕ} 0 1 = cc in omega arith)
number_own ids p q (d ∷ ds) e a k t r =
    let w = passed ids p d ds e a in
    go (is_listed d) k w (number_own (d.id ∷ ids) _ (q + 4 + length d.items) ds e w.rest) r
  where
    x : Placed
    x = record { at = q; track = d }

    xs : List Placed
    xs = listed (q + 4 + length d.items) ds

    go : (b : Bool) (k : ℕ) → Passed ids p d ds e → ((j : ℕ) (t : Track) → kth_of j xs ≡ Some t → Own (d.id ∷ ids) xs t) → kth_of k (pick b (x ∷ xs) xs) ≡ Some t → Own ids (pick b (x ∷ xs) xs) t
    go true zero w f r = front ids x xs t w.id w.fresh r
    go true (suc k) w f r = behind ids x xs t w.id (f k t r)
    go false k w f r = let o = f k t r in (o.0, (not_among (t.id + 0xC0) d.id ids o.1).0)
