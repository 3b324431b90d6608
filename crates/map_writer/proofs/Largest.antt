-- The largest map: no input passes the bounds, one reaches them, and the room that is enough.
use Prim.Native.Nat.{ℕ, ◌+◌, ◌-◌, ◌/◌, ◌<◌, ◌≤◌}
use mathlib.Core.Path.{◌≡◌, refl, ◌∙◌, ap}
use mathlib.Core.Bool.{Bool, true, false}
use mathlib.Core.List.{List, [], ◌∷◌, map}
use native.Mathlib.Omega.{arith}
use borrow.Author.Tests.{lt-ltb}
use lib.ListN.{length, length-map}
use lib.Dec.{ltb}
use Rattle.std.specs.Prelude.{Option, Some, None, Ok, Err}
use Rattle.plate.specs.Choice.{pick}
use Rattle.plate.specs.Plate.{refusal, number}
use Rattle.plate.specs.declared.Refusal.{Refusal}
use Rattle.plate.specs.declared.Fault.{Fault}
use Rattle.plate.specs.declared.Fault.TheVariants as fault
use Rattle.map_items.specs.Judge.{has}
use Rattle.map.specs.Encode.{TrackParts, padding}
use Rattle.map.proofs.Encoded.{padding_under}
use Rattle.packet_writer.specs.Write.{refused}
use Rattle.map_given.specs.Given.{material_slots, tracks_from, tracks_given}
use Rattle.map_given.specs.Faults.{fault_of, any_wrong}
use Rattle.map_given.proofs.Clean.{Clean, clean, most_64}
use Rattle.map_given.proofs.Numbers.{fault_named, fault_among, not_13}
use Rattle.map_writer.specs.Inside.{slots_size, tracks_size, tracks_bytes}
use Rattle.map_writer.specs.Write.{parts_of_track, parts_given, map_packet, or_refused, map_written_answer}
use Rattle.map_writer.specs.Largest.{track_length, Each, Sizes, largest_text, largest_material, largest_tracks, Largest}
use Rattle.map_writer.proofs.Packet.{material_size, tracks_size_lem, packet_size}
use Rattle.map_writer.proofs.Worked.{largest_sound, largest_form, largest_material_lem, largest_tracks_lem}
use Rattle.map_writer.proofs.RoundTrip.{answered, accepted}
use Rattle.map_writer.proofs.Bounds.{material_most, tracks_most, section_most}

-- from one bound to another
each_as : {P Q : ℕ → Type 0} → ((n : ℕ) → P n → Q n) → (ts : List TrackParts) → Each P ts → Each Q ts
each_as f [] e = tt
each_as f (t ∷ ts) e = (f (track_length t) e.0, each_as f ts e.1)

-- the sizes of an input without fault
module _ (text ms ts : List ℕ) (c : Clean text ms ts) where
  most : Sizes ◌≤◌ text ms ts
  unfolding parts_given tracks_bytes
  most =
      let m = material_size text ms ts c in
      let t = tracks_size_lem text ms ts c in
      let a = material_most ms in
      let b = section_most text ms ts c in
      record {
        count = omega (arith, most_64 (tracks_given ts) c.ids, length-map (tracks_given ts) (parts_of_track text));
        track = each_as {P = λ n. n ≤ 542} {Q = λ n. n ≤ 542} (λ n h. omega arith) (map (parts_of_track text) (tracks_given ts)) (tracks_most text ts (length ts / 23) 0 c.tracks).1;
        track_section = omega arith;
        material_section = omega arith;
        used = omega arith;
        packet = omega (arith, packet_size text ms ts c, padding_under (22 + slots_size (material_slots ms) + tracks_size (tracks_given ts)));
      }

reached : Sizes (◌≡◌ {A = ℕ}) largest_text largest_material largest_tracks
unfolding parts_given tracks_bytes tracks_from padding
reached =
    let c = clean largest_text largest_material largest_tracks largest_sound in
    let a = material_size largest_text largest_material largest_tracks c in
    let b = tracks_size_lem largest_text largest_material largest_tracks c in
    let m = largest_material_lem in
    let t = largest_tracks_lem in
    record {
      count = refl;
      track = (tracks_most largest_text largest_tracks 64 0 c.tracks).2 (omega arith);
      track_section = omega arith;
      material_section = omega arith;
      used = omega arith;
      packet = packet_size largest_text largest_material largest_tracks c ∙ rw (m, t);
    }

module _ (out : List ℕ) (at : ℕ) (text ms ts : List ℕ) where
  lengths : (n : ℕ) → map_written_answer out at text ms ts ≡ Ok n → n ≤ 35000
  lengths n e = let a = answered out at text ms ts n e in omega (arith, a.lens, (most text ms ts (clean text ms ts a.none)).packet)

  written : at + 35000 ≤ length out → fault_of text ms ts ≡ None → any_wrong (tracks_given ts) ≡ false → map_written_answer out at text ms ts ≡ Ok (length (map_packet text ms ts))
  written h f w = accepted out at text ms ts 0 f w (omega (arith, (most text ms ts (clean text ms ts f)).packet))

  -- a refusal: the fault's, 29 or 13
  pub refused_as : {X : Type 0} (r : Refusal) → map_written_answer out at text ms ts ≡ Err r
      → ((f : Fault) → fault_of text ms ts ≡ Some f → refusal f 0 ≡ r → X)
      → (fault_of text ms ts ≡ None → any_wrong (tracks_given ts) ≡ true → refusal fault.WrongForm 0 ≡ r → X)
      → (fault_of text ms ts ≡ None → any_wrong (tracks_given ts) ≡ false → refusal fault.Room 0 ≡ r → X)
      → X
  unfolding map_written_answer
  refused_as {X} r e first form room = go (fault_of text ms ts) refl (any_wrong (tracks_given ts)) refl (ltb (length out - at) (length (map_packet text ms ts))) e
    where
      go : (o : Option Fault) → fault_of text ms ts ≡ o → (b : Bool) → any_wrong (tracks_given ts) ≡ b → (d : Bool)
          → or_refused o (pick b (refused fault.WrongForm) (pick d (refused fault.Room) (Ok (length (map_packet text ms ts))))) ≡ Err r → X
      go None p true w d e = form p w cc
      go None p false w true e = room p w cc
      go None p false w false e = absurd (let z : ◌≡◌ {A = ℕ} 0 1 = cc in omega arith)
      go (Some f) p b w d e = first f p cc

  refusals : (r : Refusal) → map_written_answer out at text ms ts ≡ Err r → (has (number r) (24 ∷ 11 ∷ 10 ∷ 29 ∷ 13 ∷ []) ≡ true) × (r.place ≡ 0) × (r.lacking ≡ 0)
  unfolding has
  refusals r e =
      refused_as r e
      (λ f p q. rw (← q) (fault_among f (rw p at (fault_named text ms ts)), refl, refl))
      (λ f w q. rw (← q) (refl, refl, refl))
      (λ f w q. rw (← q) (refl, refl, refl))

  never_13 : (r : Refusal) → at + 35000 ≤ length out → map_written_answer out at text ms ts ≡ Err r → number r ≡ 13 → ⊥
  never_13 r h e n =
      refused_as r e
      (λ f p q. not_13 f (rw p at (fault_named text ms ts)) (ap (λ (x : Refusal). (number x)) q ∙ n))
      (λ f w q. absurd (let z : ◌≡◌ {A = ℕ} 29 13 = ap (λ (x : Refusal). (number x)) q ∙ n in omega arith))
      (λ f w q. let l = written h f w in absurd (let z : ◌≡◌ {A = ℕ} 0 1 = cc in omega arith))

fewer_13 : (out : List ℕ) (at : ℕ) → length out - at < 35000 → map_written_answer out at largest_text largest_material largest_tracks ≡ refused fault.Room
unfolding map_written_answer
fewer_13 out at h = simp (largest_sound, largest_form, reached.packet, lt-ltb (length out - at) 35000 h)

pub largest : Largest
largest =
    record {
      most = λ text ms ts f. most text ms ts (clean text ms ts f);
      fits = λ text ms ts f. let s = most text ms ts (clean text ms ts f) in (omega (arith, s.material_section), omega (arith, s.track_section));
      lengths = lengths;
      sound = largest_sound;
      form = largest_form;
      reached = reached;
      written = λ out at text ms ts h. written out at text ms ts (omega (arith, h));
      never_13 = λ out at text ms ts r h. never_13 out at text ms ts r (omega (arith, h));
      fewer_13 = fewer_13;
      refusals = refusals;
    }
