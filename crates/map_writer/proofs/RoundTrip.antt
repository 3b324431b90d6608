-- The round trip: what was written at its place is read there as what was given, and the bytes before and after it are as they were.
use Prim.Native.Nat.{ℕ, ◌+◌, ◌-◌, ◌≤◌}
use mathlib.Core.Path.{◌≡◌, refl, sym, ◌∙◌}
use mathlib.Core.Bool.{Bool, true, false}
use mathlib.Core.List.{List, map, append_assoc}
use native.Mathlib.Omega.{arith}
use borrow.Author.Tests.{ltb-false, le-ltb}
use lib.ListN.{length, take, drop}
use lib.Seq.{length-take-le}
use lib.Dec.{ltb}
use Rattle.std.specs.Prelude.{Option, Some, None, Ok, Err}
use Rattle.plate.specs.Choice.{pick}
use Rattle.plate.specs.declared.Refusal.{Refusal}
use Rattle.plate.specs.declared.Fault.{Fault}
use Rattle.plate.specs.declared.Fault.TheVariants as fault
use Rattle.packet.specs.Packet.{header_at}
use Rattle.packet.proofs.Laws.{whole}
use Rattle.map_tracks.proofs.Split as split
use Rattle.map.specs.Encode.{described, encode}
use Rattle.map.proofs.Encoded.{Fit, header_of_encoded}
use Rattle.map.proofs.Parts.{good_encoded}
use Rattle.map.proofs.ViewOfParts.{view_encoded}
use Rattle.map.proofs.Within.{read_there, track_there}
use Rattle.packet_writer.specs.Write.{refused}
use Rattle.packet_writer.proofs.Laws.{framed, header_before, header_stands}
use Rattle.map_given.specs.Given.{tracks_given}
use Rattle.map_writer.specs.Write.{parts_given, parts_of_track, map_packet, or_refused, map_written_answer, map_written_in}
use Rattle.map_writer.specs.Inside.{tracks_bytes}
use Rattle.map_writer.specs.ReadBack.{ReadBack}
use Rattle.map_given.specs.Faults.{fault_of, any_wrong}
use Rattle.map_given.proofs.Clean.{Clean, clean}
use Rattle.map_writer.proofs.Packet.{material_size, tracks_size_lem}
use Rattle.map_writer.proofs.Bounds.{material_most, section_most}
use Rattle.map_writer.proofs.ViewGiven.{parts_view_given}
use Rattle.map_writer.proofs.Judged.{parts_good}
use contract.Lifetimes.{Lfts}
use borrow.Fn.Kinds.{ended_of, Dens}
use denote.Triple.Clauses.{AtExit}
use Rattle.map_writer.proofs.write.Kinds as kinds
use Rattle.map_writer.proofs.write.Reads as reads

-- a packet has its header
length_of_header : (m : List ℕ) → header_at m 0 ≡ Ok (record { packet_type = 0xBC; len = length m }) → 16 ≤ length m
length_of_header m h = (whole m 0 (record { packet_type = 0xBC; len = length m }) h).least

-- a length was answered: there was no fault and no wrong form, and there was room
pub record Answered (out : List ℕ) (at : ℕ) (text ms ts : List ℕ) (n : ℕ) : Type 0 where
  pub none : fault_of text ms ts ≡ None
  pub form : any_wrong (tracks_given ts) ≡ false
  pub lens : n ≡ length (map_packet text ms ts)
  pub room : length (map_packet text ms ts) ≤ length out - at

module _ (out : List ℕ) (at : ℕ) (text ms ts : List ℕ) (n : ℕ) where
  pub answered : map_written_answer out at text ms ts ≡ Ok n → Answered out at text ms ts n
  unfolding map_written_answer
  answered = go (fault_of text ms ts) refl (any_wrong (tracks_given ts)) refl (ltb (length out - at) (length (map_packet text ms ts))) refl
    where
      go : (o : Option Fault) → fault_of text ms ts ≡ o → (b : Bool) → any_wrong (tracks_given ts) ≡ b → (d : Bool) → ltb (length out - at) (length (map_packet text ms ts)) ≡ d
          → or_refused o (pick b (refused fault.WrongForm) (pick d (refused fault.Room) (Ok (length (map_packet text ms ts))))) ≡ Ok n → Answered out at text ms ts n
      go None p false w false r e =
          let l : n ≡ length (map_packet text ms ts) = cc in
          record { none = p; form = w; lens = l; room = omega (arith, ltb-false) }
      go None p false w true r e = absurd (let z : ◌≡◌ {A = ℕ} 0 1 = cc in omega arith)
      go None p true w d r e = absurd (let z : ◌≡◌ {A = ℕ} 0 1 = cc in omega arith)
      go (Some f) p b w d r e = absurd (let z : ◌≡◌ {A = ℕ} 0 1 = cc in omega arith)

  -- the packet's parts fit their length words
  pub fit : Clean text ms ts → Fit (parts_given text ms ts)
  unfolding parts_given tracks_bytes
  fit c =
      let ds = map described (map (parts_of_track text) (tracks_given ts)) in
      let t = tracks_size_lem text ms ts c in
      let b = section_most text ms ts c in
      record {
        four = refl;
        material = omega (arith, material_size text ms ts c, material_most ms);
        tracks = omega arith;
        each = split.sized ds (omega (arith, split.length-bytes ds));
      }

  -- the other way: an input without fault and without a wrong form is written wherever there is room for it
  pub accepted : fault_of text ms ts ≡ None → any_wrong (tracks_given ts) ≡ false → at + length (map_packet text ms ts) ≤ length out → map_written_answer out at text ms ts ≡ Ok (length (map_packet text ms ts))
  unfolding map_written_answer
  accepted e w h = simp (e, w, le-ltb (length out - at) (length (map_packet text ms ts)) (omega arith))

  pub round_trip : map_written_answer out at text ms ts ≡ Ok n → ReadBack out at text ms ts n (map_written_in out at text ms ts)
  unfolding map_written_in map_packet
  round_trip e =
      let a = answered e in
      let c = clean text ms ts a.none in
      let f = fit c in
      let p = encode (parts_given text ms ts) in
      let h = header_of_encoded (parts_given text ms ts) f in
      let v = good_encoded (parts_given text ms ts) f (parts_good text ms ts c a.form) in
      let lens = a.lens in
      let room = a.room in
      let some = length_of_header p h in
      let q = take at out in
      let r = drop (at + length p) out in
      let l : length q ≡ at = length-take-le at out (omega arith) in
      let g = framed out at p (omega arith) in
      rw (e, lens)
      record {
        long = refl;
        stands = g.stands;
        header = header_stands out at p (omega arith) (record { packet_type = 0xBC; len = length p }) (λ s. header_before p s (record { packet_type = 0xBC; len = length p }) h);
        read = rw (append_assoc q p r) (rw l at (read_there q p r h v));
        track = λ k. rw (append_assoc q p r) (rw l at (track_there q p r h v k));
        view = view_encoded (parts_given text ms ts) f ∙ parts_view_given text ms ts c;
        before = g.before;
        after = g.after;
        lengths = g.lengths;
      }

-- what the contract says of a length answered: the buffer at exit reads back as what was given; and of a refusal: the buffer is as it was
pub write_reads_back : (κs : Lfts 4) (a : Dens κs kinds.ps) (n : ℕ) (s : AtExit (ended_of 4 kinds.ps kinds.r) κs)
    → reads.Post κs a (Ok n) s → ReadBack a.0.now a.1.0 a.1.1.0.now a.1.1.1.0.now a.1.1.1.1.0.now n s.0.now
write_reads_back κs a n s p = rw p.1 (round_trip a.0.now a.1.0 a.1.1.0.now a.1.1.1.0.now a.1.1.1.1.0.now n (sym p.0))

pub refused_stays : (κs : Lfts 4) (a : Dens κs kinds.ps) (r : Refusal) (s : AtExit (ended_of 4 kinds.ps kinds.r) κs) → reads.Post κs a (Err r) s → s.0.now ≡ a.0.now
unfolding map_written_in
refused_stays κs a r s p = p.1 ∙ rw (← p.0)
