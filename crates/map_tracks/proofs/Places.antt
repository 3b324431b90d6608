-- The places in a listed track's record stand in its section.
use Prim.Native.Nat.{ℕ, ◌+◌, ◌-◌, ◌≤◌}
use mathlib.Core.Path.{◌≡◌, refl, sym, ◌∙◌, ap}
use mathlib.Core.Bool.{Bool, true, false}
use mathlib.Core.List.{List, [], ◌∷◌}
use native.Mathlib.Omega.{arith}
use lib.ListN.{length}
use lib.Dec.{eqb}
use Rattle.std.specs.Prelude.{Some}
use Rattle.plate.specs.Choice.{pick}
use Rattle.map_answer.specs.Answer.{track_of}
use Rattle.map_answer.specs.declared.Track.{Track}
use Rattle.map_answer.proofs.Laws.{stands}
use Rattle.map_items.specs.Items.{section_of}
use Rattle.map_items.specs.Find.{find, part_of}
use Rattle.map_tracks.proofs.Listed.{listed_first, unlisted_passed}
use Rattle.map_tracks.specs.Tracks.{Description, Placed, tracks_of, is_listed, listed, record_of, id_of}
use Rattle.map_tracks.specs.Inside.{descriptions_size}
use Rattle.map_tracks.proofs.Split.{section_size_lem}

-- the name of a record is the item 4C
named : (x : Placed) → part_of (find 0x4C (x.at + 4) (section_of x.track.items).list) ≡ (record_of x).name
unfolding record_of track_of
named x = refl

listed_stands : (id base : ℕ) (ds : List Description) (t : Track) (q n : ℕ) → id_of id (listed base ds) ≡ Some t → t.name ≡ Some (record { at = q; len = n }) → q + n ≤ base + descriptions_size ds
unfolding listed id_of descriptions_size
listed_stands id base [] t q n e f = absurd (let z : ◌≡◌ {A = ℕ} 0 1 = cc in omega arith)
listed_stands id base (d ∷ ds) t q n e f = go (is_listed d) refl (λ g. listed_stands id (base + 4 + length d.items) ds t q n g f)
  where
    here : (b : Bool) → pick b (Some (record_of (record { at = base; track = d }))) (id_of id (listed (base + 4 + length d.items) ds)) ≡ Some t
        → (id_of id (listed (base + 4 + length d.items) ds) ≡ Some t → q + n ≤ base + 4 + length d.items + descriptions_size ds)
        → q + n ≤ base + (4 + length d.items + descriptions_size ds)
    here true g later =
        let r : record_of (record { at = base; track = d }) ≡ t = cc in
        let w = stands 0x4C (base + 4) d.items q n (named (record { at = base; track = d }) ∙ ap (λ (x : Track). x.name) r ∙ f) in
        omega (arith, w.1)
    here false g later = omega (arith, later g)

    go : (a : Bool) → is_listed d ≡ a
        → (id_of id (listed (base + 4 + length d.items) ds) ≡ Some t → q + n ≤ base + 4 + length d.items + descriptions_size ds)
        → q + n ≤ base + (4 + length d.items + descriptions_size ds)
    go true k later = here (eqb (d.id - 0xC0) id) (sym (ap (id_of id) (listed_first d base ds k)) ∙ e) later
    go false k later = omega (arith, later (sym (ap (id_of id) (unlisted_passed d base ds k)) ∙ e))

pub name_stands : (id base : ℕ) (s : List ℕ) (t : Track) (q n : ℕ) → id_of id (listed base (tracks_of s).list) ≡ Some t → t.name ≡ Some (record { at = q; len = n }) → q + n ≤ base + length s
name_stands id base s t q n e f = let a = listed_stands id base (tracks_of s).list t q n e f in omega (arith, section_size_lem s)
