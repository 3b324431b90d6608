-- What seek and check promise (Sought.antt, Counted.antt), of the functions themselves: of any outcome that their contracts allow as the checker reads them (`Reads.Post`).
use Prim.Native.Nat.{ℕ}
use mathlib.Core.Path.{◌≡◌, sym, ◌∙◌}
use contract.Lifetimes.{Lfts}
use borrow.Fn.Kinds.{ended_of, res_t, Dens}
use denote.Triple.Clauses.{AtExit}
use Rattle.std.specs.Prelude.{Ok, Err}
use Rattle.plate.specs.Plate.{refusal}
use Rattle.plate.specs.declared.Refusal.{Refusal}
use Rattle.plate.specs.declared.Fault.TheVariants as fault
use Rattle.stream.specs.Stream.{packets, check_of}
use lib.ListN.{length}
use Rattle.stream.proofs.Counted as counted
use Rattle.stream.proofs.Sought as sought
use Rattle.stream.specs.Sought.{NoneCarries, First}
use Rattle.stream.proofs.check.Kinds as check-kinds
use Rattle.stream.proofs.check.Reads as check-reads
use Rattle.stream.proofs.seek.Kinds as seek-kinds
use Rattle.stream.proofs.seek.Reads as seek-reads

-- a number that `check` gives is the number of the stream's packets
pub check_counts : (κs : Lfts 1) (a : Dens κs check-kinds.ps) (x : (res_t check-kinds.r κs).Denot) (t : AtExit (ended_of 1 check-kinds.ps check-kinds.r) κs) → check-reads.Post κs a x t
    → (n : ℕ) → x ≡ Ok n → length (packets a.0.now).list ≡ n
check_counts κs a x t p n e = counted.check_counts a.0.now n (sym p ∙ e)

-- x is an outcome of `seek` on the arguments a: a stream, a track and a field
module _ (κs : Lfts 1) (a : Dens κs seek-kinds.ps) (x : (res_t seek-kinds.r κs).Denot) (t : AtExit (ended_of 1 seek-kinds.ps seek-kinds.r) κs) (p : seek-reads.Post κs a x t) where
  -- an offset is that of a packet of the stream that carries the field, and none before it does
  pub answer_carries : (o : ℕ) → x ≡ Ok o → First a.1.0 a.1.1.0 o (packets a.0.now).list
  answer_carries o e = sought.answer_carries a.1.0 a.1.1.0 a.0.now o (sym p ∙ e)

  -- y is an outcome of `check` on the same stream
  module _ (ιs : Lfts 1) (b : Dens ιs check-kinds.ps) (y : (res_t check-kinds.r ιs).Denot) (u : AtExit (ended_of 1 check-kinds.ps check-kinds.r) ιs) (q : check-reads.Post ιs b y u) (same : b.0.now ≡ a.0.now) where
    checked : y ≡ check_of a.0.now
    checked = q ∙ rw same

    -- what the check refuses is refused by seek, with the same refusal, bytes lacking and all
    pub refused_alike : (r : Refusal) → y ≡ Err r → x ≡ Err r
    refused_alike r e = p ∙ sought.refused_alike a.1.0 a.1.1.0 a.0.now r (sym checked ∙ e)

    module _ (n : ℕ) (accepted : y ≡ Ok n) where
      -- the first packet that carries the field is the answer, however far it lies
      pub carrier_answers : (o : ℕ) → First a.1.0 a.1.1.0 o (packets a.0.now).list → x ≡ Ok o
      carrier_answers o f = p ∙ sought.carrier_answers a.1.0 a.1.1.0 a.0.now n (sym checked ∙ accepted) o f

      -- 16 exactly when none carries it
      pub none_is_16 : NoneCarries a.1.0 a.1.1.0 (packets a.0.now).list → x ≡ Err (refusal fault.NotThere 0)
      none_is_16 h = p ∙ sought.none_is_16 a.1.0 a.1.1.0 a.0.now n (sym checked ∙ accepted) h

      pub refused_is_none : (r : Refusal) → x ≡ Err r → NoneCarries a.1.0 a.1.1.0 (packets a.0.now).list
      refused_is_none r e = sought.refused_is_none a.1.0 a.1.1.0 a.0.now n (sym checked ∙ accepted) r (sym p ∙ e)
