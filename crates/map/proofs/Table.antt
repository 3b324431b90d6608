-- The table by ID of an accepted map says what its records say; and a map without progressive tracks has a table without marks.
use Prim.Native.Nat.{ℕ, zero, suc, ◌+◌, ◌<◌}
use mathlib.Core.Path.{◌≡◌, refl, ap, ◌∙◌}
use mathlib.Core.List.{List, []}
use native.Mathlib.Omega.{arith}
use lib.ListN.{get_or, replicate}
use Rattle.std.specs.Prelude.{Some, Ok}
use Rattle.plate.specs.Part.{part}
use Rattle.media_type.proofs.Laws.{known_under}
use Rattle.field.specs.Field.{has_mark, type_alone}
use Rattle.field.proofs.Laws.{mark_back, type_back}
use Rattle.map_answer.specs.declared.Track.{Track}
use Rattle.map_tracks.specs.Tracks.{tracks_of, tracks_verdict, listed, id_of}
use Rattle.map_tracks.specs.Table.{NoneProgressive}
use Rattle.map_tracks.proofs.Table.{byte_for, table_says, Unmarked, plain_table, alone, listed_known}
use Rattle.map.specs.Map.{listed_in, types_in, map_verdict}
use Rattle.map.specs.Table.{Table}
use Rattle.map.proofs.Parts.{accepted_sections}

-- under any ID the empty table says 0
empty_says : (i : ℕ) → ◌≡◌ {A = ℕ} (get_or (replicate 64 0) i 0) 0
empty_says i = zeros 64 i
  where
    zeros : (n i : ℕ) → ◌≡◌ {A = ℕ} (get_or (replicate n 0) i 0) 0
    zeros zero i = refl
    zeros (suc n) zero = refl
    zeros (suc n) (suc i) = zeros n i

empty_alone : (i : ℕ) → type_alone (get_or (replicate 64 0) i 0) ≡ get_or (replicate 64 0) i 0
unfolding type_alone
empty_alone i = rw (empty_says i)

pub empty_plain : Unmarked (replicate 64 0)
unfolding has_mark
empty_plain i = rw (empty_says i)

says : (p : List ℕ) → map_verdict p ≡ (Ok tt) → (id : ℕ) → id < 64 → get_or (types_in p) id 0 ≡ byte_for (id_of id (listed_in p)) 0
unfolding types_in listed_in tracks_verdict
says p v id h =
    let s = accepted_sections p v in
    let a = s.a + 2 in
    let ds = tracks_of (part a s.e p) in
    rw s.layout (table_says id h [] a a ds.list ds.end s.tracks (replicate 64 0) refl ∙ ap (byte_for (id_of id (listed a ds.list))) (empty_says id))

known_small : (p : List ℕ) (id : ℕ) (t : Track) → id_of id (listed_in p) ≡ Some t → t.media_type < 64
unfolding listed_in
known_small p id t e = omega (arith, known_under t.media_type (listed_known id _ _ t e))

pub table : Table
unfolding types_in
table =
    record {
      says = λ p v id h. record {
        type = λ t e. rw (says p v id h, e) (type_back _ _ (known_small p id t e));
        mark = λ t e. rw (says p v id h, e) (mark_back _ _ (known_small p id t e));
        other = λ e. rw (says p v id h, e);
      };
      alone = λ p id. alone id _ (replicate 64 0) (replicate 64 0) (empty_alone id) refl;
    }

-- whatever the verdict
pub plain_types : (p : List ℕ) → NoneProgressive (listed_in p) → Unmarked (types_in p)
unfolding types_in listed_in
plain_types p n = plain_table _ _ (replicate 64 0) n empty_plain
