-- The validity of a 4D by its byte 3, that a short one is not valid, and a text's aspect by its ratio.
use Prim.Native.Nat.{ℕ, ◌+◌, ◌*◌, ◌/◌, ◌%◌, ◌<◌, ◌^◌}
use mathlib.Core.Path.{◌≡◌, refl, sym, ◌∙◌}
use mathlib.Core.Bool.{true, false}
use mathlib.Core.List.{List, [], ◌∷◌}
use native.Mathlib.Omega.{arith}
use lib.ListN.{length, get_or}
use lib.Dec.{eqb}
use Rattle.std.specs.Prelude.{Result, Ok, Err}
use Rattle.std.proofs.lemmas.List.{get_or_past}
use Rattle.mpeg.specs.Read.{read_of, ratio_of}
use Rattle.map_aspect.specs.Aspect.{bit_at, validity, by_ar, by_answer, text_aspect}
use Rattle.map_aspect.specs.declared.Aspect.{Aspect}
use Rattle.map_aspect.specs.declared.Aspect.TheVariants.{Unknown}
use Rattle.mpeg_parameter.specs.declared.ParameterValue.{ParameterValue}
use Rattle.mpeg_parameter.specs.declared.Parameters.{Parameters}
use Rattle.plate.specs.declared.Refusal.{Refusal}

-- two highest bits of a byte: as one number, and bit by bit
two_bits : (b : ℕ) → b < 256 → b / 64 ≡ b / 64 % 2 + 2 * (b / 128 % 2)
two_bits b h = omega arith

pub validity_is : (v : List ℕ) → get_or v 3 0 < 256 → get_or v 3 0 / 64 ≡ validity v
unfolding validity bit_at
validity_is v h = two_bits (get_or v 3 0) h

-- the lowest bit of byte 0
pub low_bit : (v : List ℕ) → get_or v 0 0 % 2 ≡ bit_at 0 v
unfolding bit_at
low_bit v = omega arith

-- a bit of byte 0
pub low_bits : (k : ℕ) (v : List ℕ) → k < 8 → get_or v 0 0 / 2 ^ k % 2 ≡ bit_at k v
unfolding bit_at
low_bits k v h = let d : k / 8 ≡ 0 = omega arith in let r : k % 8 ≡ k = omega arith in rw (d, r)

-- a 4D of fewer than four bytes is not valid
short_none : (v : List ℕ) → length v < 4 → validity v ≡ 0
unfolding validity bit_at
short_none v h = rw (get_or_past v 3 0 (omega arith))

pub short : (v : List ℕ) → length v < 4 → eqb (validity v) 1 ≡ false
short v h = rw (short_none v h) refl

pub valid_some : (v : List ℕ) → eqb (validity v) 1 ≡ true → 0 < length v
valid_some [] e = absurd (let f : true ≡ false = sym e ∙ short [] (omega arith) in let z : ◌≡◌ {A = ℕ} 0 1 = cc in omega arith)
valid_some (x ∷ v) e = omega arith

-- a text's aspect goes by its ratio alone
abbrev pub by_ratio : Result ParameterValue Refusal → Aspect
by_ratio (Ok x) = by_ar x
by_ratio (Err r) = Unknown

pub text_ratio : (v : List ℕ) → by_ratio (ratio_of (read_of v)) ≡ text_aspect v
unfolding text_aspect ratio_of
text_ratio v = go (read_of v)
  where
    go : (a : Result Parameters Refusal) → by_ratio (ratio_of a) ≡ by_answer a
    go (Ok x) = refl
    go (Err r) = refl
