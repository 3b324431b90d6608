-- What bounds the sizes of an input without fault: its items and its tracks.
use Prim.Native.Nat.{ℕ, zero, suc, ◌+◌, ◌*◌, ◌/◌, ◌≤◌}
use mathlib.Core.Path.{◌≡◌, refl}
use mathlib.Core.Bool.{Bool, true, false}
use mathlib.Core.List.{List, map}
use native.Mathlib.Omega.{arith}
use borrow.Author.Tests.{eqb-false}
use lib.ListN.{length}
use lib.Dec.{eqb}
use Rattle.std.specs.Prelude.{None}
use Rattle.map_items.specs.Judge.{has}
use Rattle.map_given.specs.declared.Slot.{Slot}
use Rattle.map_given.specs.Given.{slot_at, slots, material_slots, track_at, tracks_from, tracks_given}
use Rattle.map_given.specs.Faults.{is_text, is_eight, given, own_fault, tracks_fault}
use Rattle.map_given.proofs.Clean.{Clean, tracks_clean, not_both, most_64}
use Rattle.map_writer.specs.Inside.{slot_size, slots_size, tracks_size, tracks_bytes}
use Rattle.map_writer.specs.Write.{parts_of_track}
use Rattle.map_writer.specs.Largest.{Each}
use Rattle.map_writer.proofs.Laws.{slot_under}
use Rattle.map_writer.proofs.Puts.{size_absent}
use Rattle.map_writer.proofs.PutTracks.{track_length_lem}

-- a name and five numbers
pub material_most : (ms : List ℕ) → slots_size (material_slots ms) ≤ 287
unfolding slots slots_size is_text is_eight has
material_most ms =
    omega (arith, slot_under (slot_at ms 0 0x40), slot_under (slot_at ms 3 0x41), slot_under (slot_at ms 6 0x42), slot_under (slot_at ms 9 0x43), slot_under (slot_at ms 12 0x44), slot_under (slot_at ms 15 0x45))

module _ (text ts : List ℕ) where
  -- a name, a 4D or a 4F, four numbers
  pub track_most : (at : ℕ) → own_fault (track_at ts at) ≡ None → slots_size (track_at ts at).slots ≤ 538
  unfolding slots slots_size given is_text is_eight has
  track_most at h =
      omega (arith, go (eqb f.mark 1) refl (not_both (track_at ts at) h), slot_under (slot_at ts (at + 2) 0x4C), slot_under (slot_at ts (at + 2 + 3 + 3) 0x4E), slot_under (slot_at ts (at + 2 + 3 + 3 + 3 + 3) 0x50), slot_under (slot_at ts (at + 2 + 3 + 3 + 3 + 3 + 3) 0x51), slot_under (slot_at ts (at + 2 + 3 + 3 + 3 + 3 + 3 + 3) 0x52))
    where
      d : Slot
      d = slot_at ts (at + 2 + 3) 0x4D

      f : Slot
      f = slot_at ts (at + 2 + 3 + 3 + 3) 0x4F

      go : (x : Bool) → eqb f.mark 1 ≡ x → (x ≡ true → eqb d.mark 1 ≡ false) → slot_size d + slot_size f ≤ 257
      go true e n = omega (arith, size_absent text d (eqb-false d.mark 1 (n refl)), slot_under f)
      go false e n = omega (arith, slot_under d, size_absent text f (eqb-false f.mark 1 e))

  -- so many tracks, each with its header; and where they have all the bytes that so many can have, each has all
  pub tracks_most : (n at : ℕ) → tracks_fault text (tracks_from n ts at) ≡ None
      → (tracks_size (tracks_from n ts at) ≤ 542 * length (tracks_from n ts at))
      × Each (λ m. m ≤ 542) (map (parts_of_track text) (tracks_from n ts at))
      × (542 * length (tracks_from n ts at) ≤ tracks_size (tracks_from n ts at) → Each (λ m. m ≡ 542) (map (parts_of_track text) (tracks_from n ts at)))
  unfolding tracks_from tracks_size tracks_bytes
  tracks_most zero at h = (omega arith, tt, λ f. tt)
  tracks_most (suc n) at h =
      let c = tracks_clean text (track_at ts at) (tracks_from n ts (at + 23)) h in
      let m = track_most at c.0 in
      let l = track_length_lem text (track_at ts at) c.1 in
      let r = tracks_most n (at + 23) c.2 in
      (omega (arith, r.0), (omega arith, r.1), λ f. (omega (arith, r.0), r.2 (omega arith)))

pub section_most : (text ms ts : List ℕ) → Clean text ms ts → tracks_size (tracks_given ts) ≤ 34688
section_most text ms ts c = omega (arith, (tracks_most text ts (length ts / 23) 0 c.tracks).0, most_64 (tracks_given ts) c.ids)
