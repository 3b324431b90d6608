-- Which numbers a map's refusal can have: 7 to 12 and 29 of its own, and 1 to 6 of its header; bytes lack with 5 alone.
use Prim.Native.Nat.{ℕ, ◌+◌}
use mathlib.Core.Path.{◌≡◌, refl, subst}
use mathlib.Core.List.{List, []}
use mathlib.Core.Logic.{inl, inr}
use native.Mathlib.Omega.{arith}
use lib.ListN.{length, get_or}
use lib.Dec.{ltb, eqb}
use Rattle.std.specs.Prelude.{Option, Some, None, Result, Ok, Err, ⊤}
use Rattle.plate.specs.Plate.{number}
use Rattle.plate.specs.declared.Refusal.{Refusal}
use Rattle.packet.specs.Packet.{header_at, packet_at}
use Rattle.packet.specs.Lacking.{PassedOn}
use Rattle.plate.proofs.Numbers.{either, Among, wider}
use Rattle.packet.proofs.Numbers.{OfHeader, packet_numbers}
use Rattle.packet.proofs.Torn.{type_passes, passed_by}
use Rattle.map_tracks.proofs.Numbers.{OfMap, as_among, Own, both, own, section_own, tracks_own}
use Rattle.map_items.specs.Judge.{bad, verdict_of}
use Rattle.map_items.specs.declared.Section.TheVariants as section
use Rattle.map_tracks.specs.Tracks.{tracks_verdict, tracks_of, kth_of}
use Rattle.map.specs.Map.{layout_of, both_verdict, sections_verdict, map_verdict, material_says, listed_in, on_verdict, answer_of, on_kth, on_track, track_in, map_from, map_at, track_from, track_at}
use Rattle.plate.specs.Part.{part}
use Rattle.map.specs.declared.Layout.{Layout}
use Rattle.map.specs.declared.Layout.TheVariants.{Both, One, Neither}
use Rattle.map.specs.declared.MapSays.{MapSays}
use Rattle.map_answer.specs.declared.Track.{Track}
use Rattle.packet.specs.declared.Packet.{Packet}
use Rattle.plate.specs.declared.Fault.TheVariants as fault

-- ---- the map's own
sections_own : (p : List ℕ) (l : Layout) → Own (sections_verdict p l)
unfolding sections_verdict both_verdict tracks_verdict
sections_own p Neither = own fault.Overhang 18 (omega arith) (omega arith)
sections_own p (One a) = both (verdict_of section.Material (part 20 a p) 20) (bad fault.Overhang a) (section_own section.Material (part 20 a p) 20) (own fault.Overhang a (omega arith) (omega arith))
sections_own p (Both a e) =
    both (verdict_of section.Material (part 20 a p) 20) (tracks_verdict (part (a + 2) e p) (a + 2)) (section_own section.Material (part 20 a p) 20) (tracks_own [] (a + 2) (tracks_of (part (a + 2) e p)).list (tracks_of (part (a + 2) e p)).end)

verdict_numbers : (p : List ℕ) → Own (map_verdict p)
unfolding map_verdict
verdict_numbers p =
    either Own (ltb (length p) 18) (own fault.Overhang 16 (omega arith) (omega arith)) (either Own (eqb (get_or p 16 0) 0xE0) (sections_own p (layout_of p)) (own fault.MapVersion 16 (omega arith) (omega arith)))

pub verdict_own : (p : List ℕ) (r : Refusal) → map_verdict p ≡ Err r → OfMap 7 r
verdict_own p r e = subst Own e (verdict_numbers p)

-- in one range
pub verdict_refused : (p : List ℕ) (r : Refusal) → map_verdict p ≡ Err r → Among 7 29 r
verdict_refused p r e = as_among 7 29 r (omega arith) (omega arith) (omega arith) (verdict_own p r e)

-- ---- the map at a position
abbrev OfAnswer : ℕ → Result MapSays Refusal → Type 0
OfAnswer lo (Ok m) = Unit {0}
OfAnswer lo (Err r) = OfMap lo r

answer_numbers : (p : List ℕ) → OfAnswer 7 (answer_of p)
unfolding answer_of
answer_numbers p = go (map_verdict p) (verdict_numbers p)
  where
    go : (v : Result ⊤ Refusal) → Own v → OfAnswer 7 (on_verdict v (Ok (record { count = length (listed_in p); material = material_says p })))
    go (Ok _) h = tt
    go (Err r) h = h

map_numbers : (s : List ℕ) (at : ℕ) → OfAnswer 1 (map_at s at)
unfolding map_at
map_numbers s at = go (packet_at s at 0xBC) (packet_numbers s at 0xBC)
  where
    of_answer : (a : Result MapSays Refusal) → OfAnswer 7 a → OfAnswer 1 a
    of_answer (Ok m) h = tt
    of_answer (Err r) (inl h) = inl (wider 1 12 r (omega arith) (omega arith) h)
    of_answer (Err r) (inr h) = inr h

    go : (a : Result Packet Refusal) → OfHeader 6 a → OfAnswer 1 (map_from s at a)
    go (Err r) h = inl (wider 1 12 r (omega arith) (omega arith) h)
    go (Ok w) h = of_answer (answer_of (part at (at + w.len) s)) (answer_numbers (part at (at + w.len) s))

-- so 13 is never a map's: it is the lent room's alone
pub map_refused : (s : List ℕ) (at : ℕ) (r : Refusal) → map_at s at ≡ Err r → OfMap 1 r
map_refused s at r e = subst (OfAnswer 1) e (map_numbers s at)

pub never_13 : (s : List ℕ) (at : ℕ) (r : Refusal) → map_at s at ≡ Err r → number r ≡ 13 → ⊥
never_13 s at r e n = go (map_refused s at r e)
  where
    go : OfMap 1 r → ⊥
    go (inl h) = absurd (omega (arith, h.1))
    go (inr h) = absurd (omega (arith, h.0))

-- ---- the track of a number
abbrev OfTrack : Result Track Refusal → Type 0
OfTrack (Ok t) = Unit {0}
OfTrack (Err r) = Among 7 29 r

track_numbers : (p : List ℕ) (k : ℕ) → OfTrack (track_in p k)
unfolding track_in
track_numbers p k = go (map_verdict p) (verdict_numbers p) (kth_of k (listed_in p))
  where
    go : (v : Result ⊤ Refusal) → Own v → (t : Option Track) → OfTrack (on_track v (on_kth t))
    go (Err r) h t = as_among 7 29 r (omega arith) (omega arith) (omega arith) h
    go (Ok _) h (Some t) = tt
    go (Ok _) h None = (omega arith, omega arith, λ n. refl)

-- ---- what the header is refused with, map and track are refused with, and their 5 is the header's
module _ (s : List ℕ) (at : ℕ) (r : Refusal) where
  pub map_passes : header_at s at ≡ Err r → map_at s at ≡ Err r
  unfolding map_at
  map_passes e = rw (type_passes s at 0xBC r e)

  pub map_passed : map_at s at ≡ Err r → PassedOn s at r
  unfolding map_at
  map_passed = passed_by (map_from s at) (Err r) s at 0xBC r (omega arith) (λ q e. cc) (λ w e. as_among 7 29 r (omega arith) (omega arith) (omega arith) (subst (OfAnswer 7) e (answer_numbers (part at (at + w.len) s))))

  pub track_passes : (k : ℕ) → header_at s at ≡ Err r → track_at s at k ≡ Err r
  unfolding track_at
  track_passes k e = rw (type_passes s at 0xBC r e)

  pub track_passed : (k : ℕ) → track_at s at k ≡ Err r → PassedOn s at r
  unfolding track_at
  track_passed k = passed_by (track_from s at k) (Err r) s at 0xBC r (omega arith) (λ q e. cc) (λ w e. subst OfTrack e (track_numbers (part at (at + w.len) s) k))
