-- The round trip: what was written at its place is read there as what was given, and the bytes before and after it are as they were.
use Prim.Native.Nat.{ℕ, ◌+◌, ◌*◌, ◌/◌, ◌<◌, ◌≤◌}
use mathlib.Core.Path.{◌≡◌, sym, ◌∙◌, ap}
use mathlib.Core.Bool.{true}
use mathlib.Core.List.{List}
use native.Mathlib.Omega.{arith}
use native.Mathlib.Nat.{mul-div_cancel}
use borrow.Author.Tests.{le-ltb, ne_eqb}
use lib.ListN.{length, get_or, take, drop}
use Rattle.std.specs.Prelude.{Ok, Err}
use Rattle.packet.specs.Packet.{packet_at, header_at}
use Rattle.packet_writer.specs.Write.{over}
use Rattle.packet_writer.proofs.Laws.{framed, header_stands}
use Rattle.locator.specs.Locator.{table_at, position_at}
use Rattle.locator_writer.specs.Write.{length_of, locator_packet, may_write, locator_answer, locator_written_in}
use Rattle.locator_writer.specs.ReadBack.{ReadBack}
use Rattle.locator_writer.proofs.Laws.{length-packet, wrote}
use Rattle.locator_writer.proofs.Back.{may, all_small, small_all, table, position, past, header, answered}
use contract.Lifetimes.{Lfts}
use borrow.Fn.Kinds.{ended_of, Dens}
use denote.Triple.Clauses.{AtExit}
use Rattle.locator_writer.proofs.write.Kinds as kinds
use Rattle.locator_writer.proofs.write.Reads as reads
use Rattle.plate.specs.declared.Refusal.{Refusal}

pub round_trip : (out : List ℕ) (at step : ℕ) (ns : List ℕ) (n : ℕ) → locator_answer out at step ns ≡ Ok n → ReadBack out at step ns n (locator_written_in out at step ns)
unfolding table_at position_at packet_at
round_trip out at step ns n e =
    let a = answered out at step ns n e in
    let m = may step ns a.may in
    let p = locator_packet step ns in
    let lp = length-packet step ns in
    let lens = a.lens in
    let room = a.room in
    let w = (wrote out at step ns a.may a.room).1 in
    let f = framed out at p (omega arith) in
    let now = over out at p in
    let h : header_at now at ≡ Ok (record { packet_type = 0xFC; len = length_of ns }) = header_stands out at p (omega arith) _ (header step ns m) in
    let b : take (length_of ns) (drop at now) ≡ p = ap (λ (k : ℕ). take k (drop at now)) (sym lp) ∙ f.stands in
    let some = m.some in
    let back : (k : ℕ) → k * step / step ≡ k = λ k. mul-div_cancel k some in
    let pos : (d : ℕ) → d / step < length ns → position_at now at d ≡ Ok (1024 * get_or ns (d / step) 0) = λ d g. simp (h, b, position step ns m d g) in
    let g : at + length p ≡ at + n = omega arith in
    rw w
    record {
      long = a.lens;
      stands = rw (lens) b;
      header = rw (lens) h;
      table = simp (h, b, table step ns m);
      position = pos;
      entry = λ k g. rw (back k) at (pos (k * step) (rw (back k) g));
      past = λ d g. simp (h, b, past step ns m d g);
      before = f.before;
      after = ap (λ (k : ℕ). drop k now) (sym g) ∙ f.after ∙ ap (λ (k : ℕ). drop k out) g;
      lengths = f.lengths;
    }

-- nothing is cut: what is written lies within its field, so that a number over 32 bits is always refused
pub never_cut : (out : List ℕ) (at step : ℕ) (ns : List ℕ) (n : ℕ) → locator_answer out at step ns ≡ Ok n
    → (0 < step) × (step ≤ 0xFFFFFFFF) × (length ns ≤ 1000) × ((k : ℕ) → get_or ns k 0 ≤ 0xFFFFFFFF)
never_cut out at step ns n e =
    let m = may step ns (answered out at step ns n e).may in
    let fits = m.fits in
    (m.some, omega arith, m.few, all_small ns m.all)

-- the other way: a table within its bounds is written wherever there is room for it
pub accepted : (out : List ℕ) (at step : ℕ) (ns : List ℕ) → 0 < step → step ≤ 0xFFFFFFFF → length ns ≤ 1000 → ((k : ℕ) → get_or ns k 0 ≤ 0xFFFFFFFF)
    → at + (24 + 4 * length ns) ≤ length out → locator_answer out at step ns ≡ Ok (24 + 4 * length ns)
unfolding may_write
accepted out at step ns a b d f h =
    let m : may_write step ns ≡ true =
    simp (ne_eqb step 0 (λ e. omega arith), le-ltb 0xFFFFFFFF step b, le-ltb 1000 (length ns) d, small_all ns f) in
    (wrote out at step ns m h).0

-- what the contract says of a length answered: the buffer at exit reads back as what was given; and of a refusal: the buffer is as it was
pub write_reads_back : (κs : Lfts 2) (a : Dens κs kinds.ps) (n : ℕ) (s : AtExit (ended_of 2 kinds.ps kinds.r) κs)
    → reads.Post κs a (Ok n) s → ReadBack a.0.now a.1.0 a.1.1.0 a.1.1.1.0.now n s.0.now
write_reads_back κs a n s p = rw p.1 (round_trip a.0.now a.1.0 a.1.1.0 a.1.1.1.0.now n (sym p.0))

pub refused_stays : (κs : Lfts 2) (a : Dens κs kinds.ps) (r : Refusal) (s : AtExit (ended_of 2 kinds.ps kinds.r) κs)
    → reads.Post κs a (Err r) s → s.0.now ≡ a.0.now
unfolding locator_written_in
refused_stays κs a r s p = p.1 ∙ rw (← p.0)
