-- What the bytes lacking say of a stream whose book is refused: what they say to the check.
use Prim.Native.Nat.{ℕ, ◌*◌}
use mathlib.Core.Path.{◌≡◌, refl, sym, ap, subst}
use mathlib.Core.Bool.{Bool, true, false}
use mathlib.Core.List.{List}
use native.Mathlib.Omega.{arith}
use lib.ListN.{length}
use lib.Dec.{ltb}
use Rattle.std.specs.Prelude.{Result, Ok, Err}
use Rattle.plate.specs.Choice.{pick}
use Rattle.plate.specs.Plate.{refusal, number}
use Rattle.plate.specs.declared.Refusal.{Refusal}
use Rattle.plate.specs.declared.Fault.TheVariants as fault
use Rattle.plate.proofs.Numbers.{either, Among}
use Rattle.stream.specs.Stream.{check_of}
use Rattle.stream.specs.Lacking.{StreamLacking, StreamCutOff, StreamOpens}
use Rattle.stream.proofs.Numbers.{in_one, OfCheck, check_numbers}
use Rattle.stream.proofs.Torn.{lacking_of, check_opens}
use Rattle.stream.proofs.CutOff.{check_cut}
use Rattle.book_builder.specs.BookBuilder.{entries_in, in_room, build_answer}
use Rattle.book_builder.specs.Lacking.{BuildRefuses}
use Rattle.book_builder.proofs.Laws.{build_refused}

abbrev OfBuild : Result ℕ Refusal → Type 0
OfBuild (Ok n) = Unit {0}
OfBuild (Err r) = Among 1 29 r

build_numbers : (l s : List ℕ) → OfBuild (build_answer l s)
unfolding build_answer
build_numbers l s = go (check_of s) (check_numbers s)
  where
    go : (a : Result ℕ Refusal) → OfCheck a → OfBuild (in_room (length l) (length (entries_in s)) a)
    go (Err r) h = in_one r h
    go (Ok k) h = either OfBuild (ltb (length l) (16 * length (entries_in s))) (omega arith, omega arith, λ n. refl) tt

pub build_lacking : (l s : List ℕ) (r : Refusal) → BuildRefuses l s r → StreamLacking (BuildRefuses l) s r
unfolding build_answer
build_lacking l s r e = lacking_of (BuildRefuses l) (λ z q f. sym (build_refused l z q f).0) (λ z q f five. go z q five (check_of z) f) s r e (subst OfBuild e (build_numbers l s)).2
  where
    roomy : (q : Refusal) → number q ≡ 5 → (n : ℕ) (b : Bool) → pick b (Err (refusal fault.Room 0)) (Ok n) ≡ Err q → ⊥
    roomy q five n true f = let z : refusal fault.Room 0 ≡ q = cc in omega (arith, ap (λ (x : Refusal). (number x)) z)
    roomy q five n false f = let z : ◌≡◌ {A = ℕ} 0 1 = cc in omega arith

    go : (z : List ℕ) (q : Refusal) → number q ≡ 5 → (a : Result ℕ Refusal) → in_room (length l) (length (entries_in z)) a ≡ Err q → a ≡ Err q
    go z q five (Err r) f = ap Err cc
    go z q five (Ok k) f = absurd (roomy q five (length (entries_in z)) (ltb (length l) (16 * length (entries_in z))) f)

pub build_cut : (l : List ℕ) → StreamCutOff (BuildRefuses l)
build_cut l s n e before x after m k h i = sym (build_refused l _ _ (check_cut s n e before x after m k h i)).0

pub build_opens : (l : List ℕ) → StreamOpens (BuildRefuses l)
build_opens l s r h e = sym (build_refused l s r (check_opens s r h e)).0
