-- The round trips, from the theorems of the writers.
use Prim.Native.Nat.{ℕ, ◌-◌}
use mathlib.Core.Path.{◌≡◌, refl, sym, ◌∙◌, ap}
use mathlib.Core.Bool.{Bool, true, false}
use mathlib.Core.List.{List, [], ◌∷◌}
use native.Mathlib.Omega.{arith}
use lib.ListN.{length}
use lib.Dec.{ltb}
use Rattle.std.specs.Prelude.{Result, Ok, Err}
use Rattle.plate.specs.Choice.{pick}
use Rattle.plate.specs.Plate.{refusal, number}
use Rattle.plate.specs.declared.Refusal.{Refusal}
use Rattle.plate.specs.declared.Fault.TheVariants as fault
use Rattle.map_items.specs.Judge.{has}
use Rattle.packet_writer.specs.Write.{refused}
use Rattle.map_writer.specs.Readers as map
use Rattle.map_writer.proofs.RoundTrip as map-trip
use Rattle.map_writer.proofs.Readers.{write_then_read}
use Rattle.map_writer.proofs.Largest.{largest}
use Rattle.locator_writer.specs.Write.{length_of, may_write, locator_answer}
use Rattle.locator_writer.proofs.RoundTrip as locator-trip
use Rattle.locator_writer.proofs.Laws.{wrote}
use Rattle.locator_writer.proofs.Readers.{readers}
use Rattle.paper_readings.specs.Calls.{WritesMap}
use Rattle.paper_readings.proofs.Calls.{map_written_is, locator_written_is}
use Rattle.promises.specs.ReadsBack.{ReadsBack}

-- whatever the contract of `map_writer::write` allows, the readers show what was given
map_read : (out : List ℕ) (at : ℕ) (text ms ts : List ℕ) (n : ℕ) (o : List ℕ) → WritesMap out at text ms ts (Ok n) o → map.Readers o at n text ms ts
map_read out at text ms ts n o g =
    let e : g.result ≡ Ok n = ap (λ (p : (Result ℕ Refusal) × List ℕ). p.0) g.it in
    let f : g.exit.0.now ≡ o = ap (λ (p : (Result ℕ Refusal) × List ℕ). p.1) g.it in
    rw (← f, ← g.on.1, ← g.on.2, ← g.on.3, ← g.on.4) (write_then_read g.lifetimes g.arguments n g.exit (rw e at g.post))

-- a table that is refused: 24, or 13
locator_refused : (out : List ℕ) (at step : ℕ) (ns : List ℕ) (r : Refusal) → locator_answer out at step ns ≡ Err r → (has (number r) (24 ∷ 13 ∷ []) ≡ true) × (r.place ≡ 0) × (r.lacking ≡ 0)
unfolding locator_answer has
locator_refused out at step ns r = go (may_write step ns) (ltb (length out - at) (length_of ns))
  where
    go : (a b : Bool) → pick a (pick b (refused fault.Room) (Ok (length_of ns))) (refused fault.Barred) ≡ Err r → (has (number r) (24 ∷ 13 ∷ []) ≡ true) × (r.place ≡ 0) × (r.lacking ≡ 0)
    go true true e = let q : refusal fault.Room 0 ≡ r = cc in rw (← q) (refl, refl, refl)
    go true false e = absurd (let z : ◌≡◌ {A = ℕ} 0 1 = cc in omega arith)
    go false b e = let q : refusal fault.Barred 0 ≡ r = cc in rw (← q) (refl, refl, refl)

pub reads_back : ReadsBack
reads_back =
    record {
      map = λ out at text ms ts n o g. let e = map_written_is out at text ms ts _ o g in rw e.1 (map-trip.round_trip out at text ms ts n (sym e.0));
      map_readers = map_read;
      locator = λ out at step ns n o g. let e = locator_written_is out at step ns _ o g in rw e.1 (locator-trip.round_trip out at step ns n (sym e.0));
      locator_readers = λ out at step ns n o g. let e = locator_written_is out at step ns _ o g in rw e.1 (readers out at step ns n _ (locator-trip.round_trip out at step ns n (sym e.0)));
      map_writes = λ out at text ms ts e w h x o g. (map_written_is out at text ms ts x o g).0 ∙ map-trip.accepted out at text ms ts 0 e w h;
      locator_writes = λ out at step ns m h x o g. (locator_written_is out at step ns x o g).0 ∙ (wrote out at step ns m h).0;
      largest = largest;
      map_length = λ out at text ms ts n o g. largest.lengths out at text ms ts n (sym (map_written_is out at text ms ts _ o g).0);
      map_room = λ out at text ms ts h r o g. largest.never_13 out at text ms ts r h (sym (map_written_is out at text ms ts _ o g).0);
      map_refusals = λ out at text ms ts r o g. largest.refusals out at text ms ts r (sym (map_written_is out at text ms ts _ o g).0);
      locator_refusals = λ out at step ns r o g. locator_refused out at step ns r (sym (locator_written_is out at step ns _ o g).0);
    }
