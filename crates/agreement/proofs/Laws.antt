-- Two answers that are one are alike; a book that was built had room, and look-up in it and seek are alike.
use Prim.Native.Nat.{ℕ, ◌*◌, ◌≤◌}
use mathlib.Core.Path.{◌≡◌, refl, sym, subst, ◌∙◌}
use mathlib.Core.Bool.{Bool, true, false}
use mathlib.Core.List.{List}
use native.Mathlib.Omega.{arith}
use lib.ListN.{length, take}
use lib.Dec.{eqb, ltb}
use denote.Ref.{Bor}
use borrow.Author.Tests.{eq-eqb, ltb-false}
use Rattle.std.specs.Prelude.{Result, Ok, Err}
use Rattle.plate.specs.Plate.{refusal, number}
use Rattle.stream.specs.Stream.{check_of, seek_of}
use Rattle.book.specs.Book.{lookup_of}
use Rattle.book_builder.specs.BookBuilder.{entries_in, in_room, build_answer, built_in}
use Rattle.book_builder.proofs.Contracts.{Lent}
use Rattle.book_builder.proofs.Same.{lookup_is_seek}
use Rattle.plate.specs.contracts.RefusalPartialEq.TheImpl as contracts
use Rattle.plate.specs.contracts.FaultPartialEq.TheImpl as faults
use Rattle.std.specs.Result.{result_eq}
use Rattle.plate.specs.declared.Refusal.{Refusal}
use Rattle.plate.specs.declared.Fault.{Fault}
use Rattle.plate.specs.declared.Fault.TheVariants as fault

pub had_room : (l s : List ℕ) (n : ℕ) → build_answer l s ≡ Ok n → 16 * n ≤ length l
unfolding build_answer
had_room l s n = go (check_of s) (ltb (length l) (16 * length (entries_in s))) refl
  where
    go : (a : Result ℕ Refusal) (t : Bool) → ltb (length l) (16 * length (entries_in s)) ≡ t → in_room (length l) (length (entries_in s)) a ≡ Ok n → 16 * n ≤ length l
    go (Err r) t q e = absurd (let z : ◌≡◌ {A = ℕ} 0 1 = cc in omega arith)
    go (Ok k) true q e = absurd (by (rw q at e))
      where
        by : ◌≡◌ {A = Result ℕ Refusal} (Err (refusal fault.Room 0)) (Ok n) → ⊥
        by e = let z : ◌≡◌ {A = ℕ} 0 1 = cc in omega arith
    go (Ok k) false q e = by (rw q at e)
      where
        by : ◌≡◌ {A = Result ℕ Refusal} (Ok (length (entries_in s))) (Ok n) → 16 * n ≤ length l
        by e = let m : n ≡ length (entries_in s) = cc in omega (arith, m, ltb-false (length l) (16 * length (entries_in s)) q)

-- a fault is equal to itself, as the code compares faults
fault_equal : (f : Fault) → faults.eq-value.it f f ≡ true
fault_equal fault.FewBytes = refl
fault_equal fault.Leader = refl
fault_equal fault.Trailer = refl
fault_equal fault.PacketLength = refl
fault_equal fault.Torn = refl
fault_equal fault.OtherType = refl
fault_equal fault.MapVersion = refl
fault_equal fault.Overhang = refl
fault_equal fault.ItemSize = refl
fault_equal fault.Twice = refl
fault_equal fault.Text = refl
fault_equal fault.TypeOrId = refl
fault_equal fault.Room = refl
fault_equal fault.LocatorCount = refl
fault_equal fault.LocatorStep = refl
fault_equal fault.NotThere = refl
fault_equal fault.NoMapFirst = refl
fault_equal fault.StreamEnd = refl
fault_equal fault.LocatorPlace = refl
fault_equal fault.MapOverdue = refl
fault_equal fault.NoUmf = refl
fault_equal fault.Unmapped = refl
fault_equal fault.Book = refl
fault_equal fault.Barred = refl
fault_equal fault.AuxiliaryLine = refl
fault_equal fault.NotGiven = refl
fault_equal fault.WrongForm = refl
fault_equal fault.UmfForm = refl
fault_equal (fault.Other n) = eq-eqb n n refl

-- an answer is equal to itself, as the code compares answers
pub self_equal : (a : Result ℕ Refusal) → result_eq eqb contracts.eq-value.it a a ≡ true
self_equal (Ok o) = eq-eqb o o refl
self_equal (Err r) = rw (fault_equal r.fault, eq-eqb r.lacking r.lacking refl) (eq-eqb r.place r.place refl)

-- so no equal answers are found unequal
pub unequal : (a b : Result ℕ Refusal) → a ≡ b → result_eq eqb contracts.eq-value.it a b ≡ false → ⊥
unequal a b e f = by (sym (subst (λ (z : Result ℕ Refusal). result_eq eqb contracts.eq-value.it a z ≡ true) e (self_equal a)) ∙ f)
  where
    by : true ≡ false → ⊥
    by g = let z : ◌≡◌ {A = ℕ} 0 1 = cc in omega arith

-- x is a stream that a slice lends, and the first k bytes of the buffer o are the book that was built of it: look-up in them and seek in the stream are one
pub agrees : (x : Bor (List ℕ)) → Lent x → (l : List ℕ) (n : ℕ) → build_answer l x.now ≡ Ok n → (track field k : ℕ) (o : List ℕ)
    → (a : Result ℕ Refusal) → a ≡ lookup_of (take k o) track field → o ≡ built_in l x.now → (b : Result ℕ Refusal) → b ≡ seek_of x.now track field → k ≡ 16 * n → a ≡ b
agrees x lent l n e track field k o a p built b q whole =
    rw (p, built, whole, q) (lookup_is_seek x.now lent.known lent.room.0 l n e track field)
