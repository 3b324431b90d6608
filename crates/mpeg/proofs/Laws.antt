-- What the reader rests on: a text has its closing 00, and what the slots come to goes by whether any is lacking.
use Prim.Native.Nat.{ℕ, ◌<◌}
use mathlib.Core.Path.{◌≡◌, refl}
use mathlib.Core.Bool.{Bool, true, false}
use mathlib.Core.List.{List, [], ◌∷◌}
use native.Mathlib.Omega.{arith}
use lib.ListN.{length}
use Rattle.std.specs.Prelude.{Option, Result, Ok, Err, ⊤}
use Rattle.plate.specs.Choice.{pick}
use Rattle.plate.specs.Plate.{refusal}
use Rattle.plate.specs.declared.Refusal.{Refusal}
use Rattle.plate.specs.declared.Fault.TheVariants as fault
use Rattle.text.specs.Text.{text_ok}
use Rattle.mpeg_parameter.specs.Parameters.{lacking, parameters_of}
use Rattle.mpeg.specs.Read.{parameters_answer}
use Rattle.mpeg.specs.Inside.{completed}

pub text_some : (v : List ℕ) → text_ok v ≡ true → 0 < length v
unfolding text_ok
text_some [] e = absurd (let z : ◌≡◌ {A = ℕ} 0 1 = cc in omega arith)
text_some (x ∷ v) e = omega arith

module _ (slots : List (Option ℕ)) where
  pub answer_err : (r : Refusal) → completed slots ≡ Err r → parameters_answer slots ≡ Err r
  unfolding completed parameters_answer
  answer_err r = go (lacking slots 14)
    where
      go : (b : Bool) → pick {A = Result ⊤ Refusal} b (Err (refusal fault.NotGiven 0)) (Ok tt) ≡ Err r → pick b (Err (refusal fault.NotGiven 0)) (Ok (parameters_of slots)) ≡ Err r
      go true e = let w : refusal fault.NotGiven 0 ≡ r = cc in rw w
      go false e = absurd (let z : ◌≡◌ {A = ℕ} 0 1 = cc in omega arith)

  pub answer_ok : completed slots ≡ Ok tt → parameters_answer slots ≡ Ok (parameters_of slots)
  unfolding completed parameters_answer
  answer_ok = go (lacking slots 14)
    where
      go : (b : Bool) → pick {A = Result ⊤ Refusal} b (Err (refusal fault.NotGiven 0)) (Ok tt) ≡ Ok tt
          → pick b (Err (refusal fault.NotGiven 0)) (Ok (parameters_of slots)) ≡ Ok (parameters_of slots)
      go true e = absurd (let z : ◌≡◌ {A = ℕ} 0 1 = cc in omega arith)
      go false e = refl
