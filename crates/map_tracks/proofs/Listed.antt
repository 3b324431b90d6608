-- The listed tracks, counted, found by number and set by ID, a turn at a time.
use Prim.Native.Nat.{ℕ, zero, suc, ◌+◌, ◌-◌, ◌<◌, ◌≤◌}
use mathlib.Core.Path.{◌≡◌, refl, ◌∙◌, ap}
use mathlib.Core.List.{List, [], ◌∷◌}
use mathlib.Core.Bool.{Bool, true, false}
use native.Mathlib.Omega.{arith}
use lib.ListN.{length, get_or, take, drop, set}
use borrow.Author.Tests.{eq-eqb, ne_eqb}
use Rattle.std.specs.Prelude.{Some}
use Rattle.plate.specs.Choice.{pick}
use Rattle.number.specs.Number.{be}
use Rattle.map_items.specs.Items.{section_of}
use Rattle.map_answer.specs.Answer.{track_of}
use Rattle.map_tracks.specs.Tracks.{Description, Placed, split_tracks, tracks_of, is_listed, listed, record_of, kth_of, id_of, byte_of, types_of}
use Rattle.map_tracks.specs.Inside.{key_of, keyed_of}
use Rattle.map_tracks.proofs.Split.{track_at, items_length, split_done, split_short, split_over, split_track}

-- what is left of the tracks from a place on, and what there is of the whole, for any way to measure them
pub record Left {A : Type 0} (s : List ℕ) (at : ℕ) (whole : A) (measure : List Description → A) : Type 0 where
  pub fuel : ℕ
  pub enough : length s - at < fuel
  pub same : whole ≡ measure (split_tracks fuel (drop at s)).list

pub start : {A : Type 0} (s : List ℕ) (whole : A) (measure : List Description → A) → whole ≡ measure (tracks_of s).list → Left s 0 whole measure
unfolding tracks_of
start s whole measure e = record { fuel = suc (length s); enough = omega arith; same = e }

module _ {A : Type 0} (s : List ℕ) (at : ℕ) (whole : A) (measure : List Description → A) (l : Left s at whole measure) where
  pub on_done : length s ≤ at → whole ≡ measure []
  on_done h = l.same ∙ rw (split_done s at l.fuel (omega (arith, l.enough)) h)

  pub on_short : at < length s → length s - at < 4 → whole ≡ measure []
  on_short h k = l.same ∙ rw (split_short s at l.fuel (omega (arith, l.enough)) h k)

  module _ (h : 4 ≤ length s - at) (n : ℕ) (e : n ≡ be s (at + 2) 2) where
    pub on_over : length s - at - 4 < n → whole ≡ measure []
    on_over k = l.same ∙ rw (split_over s at l.fuel (omega (arith, l.enough)) n h e k)

    -- one track more: what it adds is the next measure
    pub on_track_lem : n ≤ length s - at - 4 → (next : List Description → A) → ((ds : List Description) → measure (track_at s at n ∷ ds) ≡ next ds) → Left s (at + 4 + n) whole next
    on_track_lem k next w =
        record {
          fuel = l.fuel - 1;
          enough = omega (arith, l.enough);
          same = l.same ∙ rw (split_track s at l.fuel (omega (arith, l.enough)) n h e k) (w (split_tracks (l.fuel - 1) (drop (at + 4 + n) s)).list);
        }

pub one_at_most : (b : Bool) → pick b 1 0 ≤ 1
one_at_most true = omega arith
one_at_most false = omega arith

-- the number of listed tracks is the same whatever their place
pub count_anywhere : (p q : ℕ) (ds : List Description) → length (listed p ds) ≡ length (listed q ds)
unfolding listed
count_anywhere p q [] = refl
count_anywhere p q (d ∷ ds) = go (is_listed d) (count_anywhere (p + 4 + length d.items) (q + 4 + length d.items) ds)
  where
    go : (b : Bool) → length (listed (p + 4 + length d.items) ds) ≡ length (listed (q + 4 + length d.items) ds)
        → length (pick b (record { at = p; track = d } ∷ listed (p + 4 + length d.items) ds) (listed (p + 4 + length d.items) ds))
        ≡ length (pick b (record { at = q; track = d } ∷ listed (q + 4 + length d.items) ds) (listed (q + 4 + length d.items) ds))
    go true e = ap suc e
    go false e = e

-- a track more in front of the listed ones, or not
module _ (d : Description) (p : ℕ) (ds : List Description) where
  pub unlisted_passed : is_listed d ≡ false → listed p (d ∷ ds) ≡ listed (p + 4 + length d.items) ds
  unfolding listed
  unlisted_passed e = rw e

  pub listed_first : is_listed d ≡ true → listed p (d ∷ ds) ≡ record { at = p; track = d } ∷ listed (p + 4 + length d.items) ds
  unfolding listed
  listed_first e = rw e

module _ (d : Description) where
  -- one track more, in each measure
  pub count_turn : (m : ℕ) (ds : List Description) → m + length (listed 0 (d ∷ ds)) ≡ m + pick (is_listed d) 1 0 + length (listed 0 ds)
  unfolding listed
  count_turn m ds = go (is_listed d) (count_anywhere (0 + 4 + length d.items) 0 ds)
    where
      go : (b : Bool) → length (listed (0 + 4 + length d.items) ds) ≡ length (listed 0 ds)
          → m + length (pick b (record { at = 0; track = d } ∷ listed (0 + 4 + length d.items) ds) (listed (0 + 4 + length d.items) ds)) ≡ m + pick b 1 0 + length (listed 0 ds)
      go true e = omega arith
      go false e = omega arith

  pub type_turn : (t : List ℕ) (ds : List Description) → types_of t (d ∷ ds) ≡ types_of (pick (is_listed d) (set t (d.id - 0xC0) (byte_of d.type_byte d.items)) t) ds
  unfolding types_of
  type_turn t ds = refl

-- what is asked for by its number is the k-th, and what is asked for by its ID is the track of that ID
pub keyed_number : (k n wanted : ℕ) → wanted ≡ n + k → (xs : List Placed) → keyed_of false n wanted xs ≡ kth_of k xs
unfolding keyed_of key_of kth_of
keyed_number k n w e [] = refl
keyed_number zero n w e (x ∷ xs) = rw (eq-eqb n w (omega arith))
keyed_number (suc k) n w e (x ∷ xs) = rw (ne_eqb n w (omega arith)) (keyed_number k (n + 1) w (omega arith) xs)

pub keyed_id : (id n : ℕ) (xs : List Placed) → keyed_of true n id xs ≡ id_of id xs
unfolding keyed_of key_of id_of
keyed_id id n [] = refl
keyed_id id n (x ∷ xs) = rw (keyed_id id (n + 1) xs)

-- the track asked for, from a place on: one that is not listed, one before it, and it
module _ (s : List ℕ) (base at n : ℕ) (h : n ≤ length s - at - 4) (named : Bool) (before wanted : ℕ) where
  next : base + at + 4 + length (track_at s at n).items ≡ base + (at + 4 + n)
  next = omega (arith, items_length s at n h)

  pub pass_other : is_listed (track_at s at n) ≡ false → (ds : List Description)
      → keyed_of named before wanted (listed (base + at) (track_at s at n ∷ ds)) ≡ keyed_of named before wanted (listed (base + (at + 4 + n)) ds)
  pass_other e ds = rw (unlisted_passed (track_at s at n) (base + at) ds e, next)

  pub pass_listed : (key_of named before (get_or s (at + 1) 0) ≡ wanted → ⊥) → is_listed (track_at s at n) ≡ true → (ds : List Description)
      → keyed_of named before wanted (listed (base + at) (track_at s at n ∷ ds)) ≡ keyed_of named (before + 1) wanted (listed (base + (at + 4 + n)) ds)
  unfolding keyed_of
  pass_listed z e ds = rw (listed_first (track_at s at n) (base + at) ds e, ne_eqb _ _ z, next)

  pub here : key_of named before (get_or s (at + 1) 0) ≡ wanted → is_listed (track_at s at n) ≡ true → (ds : List Description)
      → keyed_of named before wanted (listed (base + at) (track_at s at n ∷ ds)) ≡ Some (track_of (get_or s at 0) (get_or s (at + 1) 0) (base + (at + 4)) (section_of (take n (drop (at + 4) s))).list)
  unfolding keyed_of record_of
  here z e ds =
      let a : base + at + 4 ≡ base + (at + 4) = omega arith in
      rw (listed_first (track_at s at n) (base + at) ds e, eq-eqb _ _ z, a)
