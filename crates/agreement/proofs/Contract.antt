-- Over the contract of `compare` as the checker reads it (`Reads.Post`), with nothing asked of the lent bytes: it never finds two answers, and finds one wherever `build` gives a number of records.
use Prim.Native.Nat.{ℕ}
use mathlib.Core.Path.{◌≡◌, sym, ◌∙◌}
use contract.Lifetimes.{Lfts}
use borrow.Fn.Kinds.{ended_of, res_t, Dens}
use denote.Triple.Clauses.{AtExit}
use native.Mathlib.Omega.{arith}
use Rattle.std.specs.Prelude.{Result, Ok, Err}
use Rattle.book_builder.specs.BookBuilder.{build_answer}
use Rattle.book_builder.proofs.build.Kinds as build-kinds
use Rattle.book_builder.proofs.build.Reads as build-reads
use Rattle.agreement.specs.Agreement.{agreement_of}
use Rattle.agreement.specs.declared.Agreement.TheVariants.{One, Two}
use Rattle.plate.specs.declared.Refusal.{Refusal}
use Rattle.agreement.proofs.compare.Kinds as compare-kinds
use Rattle.agreement.proofs.compare.Reads as compare-reads

module _ (κs : Lfts 2) (a : Dens κs compare-kinds.ps) (x : (res_t compare-kinds.r κs).Denot) (t : AtExit (ended_of 2 compare-kinds.ps compare-kinds.r) κs) (p : compare-reads.Post κs a x t) where
  pub never_two : x ≡ Ok Two → ⊥
  never_two e = go (build_answer a.0.now a.1.0.now) (sym e ∙ p.0)
    where
      go : (y : Result ℕ Refusal) → Ok Two ≡ agreement_of y → ⊥
      go (Err r) e = let z : ◌≡◌ {A = ℕ} 0 1 = cc in omega arith
      go (Ok n) e = let z : ◌≡◌ {A = ℕ} 0 1 = cc in omega arith

  -- y is an outcome of `build` on the same buffer and stream
  pub one_where_built : (ιs : Lfts 2) (b : Dens ιs build-kinds.ps) (y : (res_t build-kinds.r ιs).Denot) (u : AtExit (ended_of 2 build-kinds.ps build-kinds.r) ιs) → build-reads.Post ιs b y u
      → b.0.now ≡ a.0.now → b.1.0.now ≡ a.1.0.now → (n : ℕ) → y ≡ Ok n → x ≡ Ok One
  one_where_built ιs b y u q same-buffer same-stream n e = p.0 ∙ rw (← same-buffer, ← same-stream, sym q.0 ∙ e)
