-- Where a map's sections lie: within the packet.
use Prim.Native.Nat.{ℕ, ◌+◌, ◌-◌, ◌≤◌}
use mathlib.Core.Path.{◌≡◌, refl}
use mathlib.Core.Bool.{Bool, true, false}
use mathlib.Core.List.{List}
use native.Mathlib.Omega.{arith}
use lib.ListN.{length, length-take}
use lib.Dec.{ltb}
use borrow.Author.Tests.{ltb-false}
use Rattle.std.specs.Prelude.{Some}
use Rattle.plate.specs.Choice.{pick}
use Rattle.number.specs.Number.{be}
use Rattle.map.specs.Map.{after_material, layout_of, tracks_in, tracks_at, listed_in}
use Rattle.plate.specs.Part.{part}
use Rattle.map.specs.declared.Layout.{Layout}
use Rattle.map.specs.declared.Layout.TheVariants.{Both, One, Neither}
use Rattle.map_answer.specs.declared.Track.{Track}
use Rattle.map_tracks.specs.Tracks.{id_of}
use Rattle.map_tracks.proofs.Places.{name_stands}

-- a layout whose ends stand in their order, up to a length
abbrev pub Within : ℕ → Layout → Type 0
Within n (Both a e) = (20 ≤ a) × (a + 2 ≤ e) × (e ≤ n)
Within n (One a) = (20 ≤ a) × (a ≤ n)
Within n Neither = Unit {0}

after_within : (p : List ℕ) (a : ℕ) → 20 ≤ a → a ≤ length p → Within (length p) (after_material p a)
unfolding after_material
after_within p a h k = go (ltb (length p - a) 2) (ltb (length p - a - 2) (be p a 2)) refl refl
  where
    go : (x y : Bool) → ltb (length p - a) 2 ≡ x → ltb (length p - a - 2) (be p a 2) ≡ y → Within (length p) (pick x (One a) (pick y (One a) (Both a (a + 2 + be p a 2))))
    go true y q r = (h, k)
    go false true q r = (h, k)
    go false false q r = (h, omega arith, omega (arith, ltb-false))

pub layout_within : (p : List ℕ) → Within (length p) (layout_of p)
unfolding layout_of
layout_within p = go (ltb (length p) 20) (ltb (length p - 20) (be p 18 2)) refl refl
  where
    go : (x y : Bool) → ltb (length p) 20 ≡ x → ltb (length p - 20) (be p 18 2) ≡ y → Within (length p) (pick x Neither (pick y Neither (after_material p (20 + be p 18 2))))
    go true y q r = tt
    go false true q r = tt
    go false false q r = after_within p (20 + be p 18 2) (omega arith) (omega (arith, ltb-false))

-- the same, of the layout that a match has told
pub both_within : (p : List ℕ) (a e : ℕ) → layout_of p ≡ Both a e → (20 ≤ a) × (a + 2 ≤ e) × (e ≤ length p)
both_within p a e q = rw q at (layout_within p)

pub one_within : (p : List ℕ) (a : ℕ) → layout_of p ≡ One a → (20 ≤ a) × (a ≤ length p)
one_within p a q = rw q at (layout_within p)

-- places in the sections are places in the packet
pub part_length : (from to : ℕ) (p : List ℕ) → length (part from to p) ≤ to - from
part_length from to p = simp length-take (omega arith)

pub tracks_fit : (p : List ℕ) → tracks_at (layout_of p) + length (tracks_in p (layout_of p)) ≤ length p
tracks_fit p = go (layout_of p) (layout_within p)
  where
    go : (l : Layout) → Within (length p) l → tracks_at l + length (tracks_in p l) ≤ length p
    go (Both a e) w = omega (arith, part_length (a + 2) e p, w.0, w.1, w.2)
    go (One a) w = omega arith
    go Neither w = omega arith

-- the name of a listed track stands in the packet
pub name_within : (p : List ℕ) (id : ℕ) (t : Track) (q n : ℕ) → id_of id (listed_in p) ≡ Some t → t.name ≡ Some (record { at = q; len = n }) → q + n ≤ length p
unfolding listed_in
name_within p id t q n e f =
    let a = name_stands id (tracks_at (layout_of p)) (tracks_in p (layout_of p)) t q n e f in
    omega (arith, tracks_fit p)
