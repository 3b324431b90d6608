-- Runs from a place on: at the end, at one of another kind, at one of the kind; by the library's count of those in front; and where they end.
use Prim.Native.Nat.{ℕ, suc, ◌+◌, ◌<◌, ◌≤◌}
use mathlib.Core.Path.{◌≡◌, refl}
use mathlib.Core.List.{List, [], ◌∷◌}
use mathlib.Core.Bool.{Bool, true, false}
use native.Mathlib.Omega.{arith}
use native.Mathlib.Nat.{add-zero}
use native.Mathlib.Numerals.{add-one}
use Rattle.std.proofs.lemmas.List.Folds.{length-prefix_len}
use lib.ListN.{take, length, get_or, drop, drop_of_length-le, length-drop}
use lib.Seq.{get_or-drop, drop-cons}
use Rattle.std.proofs.lemmas.List.Sums.{prefix_len-le-length, prefix_len_passes}
use Rattle.plate.specs.Choice.{pick, within}
use Rattle.mpeg_scan.specs.Scan.{run, run_end, alnum}
use Rattle.std.specs.Prelude.{◌||◌, ◌&&◌}
use Rattle.std.specs.Int.{is_in_range}
use Rattle.std.specs.List.{prefix_len}
use Rattle.std.specs.Char.{is_ascii_alphanumeric}
use mathlib.Core.Bool.{cond}
use lib.Dec.{leb}

-- a run is as many as are taken from the front while they are of the kind
run_is : {A : Type 0} (p : A → Bool) (s : List A) → prefix_len p s ≡ run p s
unfolding run
run_is p [] = refl
run_is p (x ∷ s) = go (p x) (run_is p s)
  where
    go : (b : Bool) → prefix_len p s ≡ run p s → cond b (1 + prefix_len p s) 0 ≡ pick b (suc (run p s)) 0
    go true e = omega arith
    go false e = refl

pub run_end_is : {A : Type 0} (p : A → Bool) (s : List A) (at n : ℕ) → n ≡ length (take (prefix_len p (drop at s)) (drop at s)) → at + n ≡ run_end p s at
unfolding run_end
run_end_is p s at n e = let l = length-prefix_len p (drop at s) in let r = run_is p (drop at s) in omega arith

pub in_range_is : (first last b : ℕ) → is_in_range first last b ≡ within first last b
in_range_is first last b = go (leb first b) (leb b last)
  where
    go : (x y : Bool) → x && y ≡ pick x y false
    go true y = refl
    go false y = refl

pub alnum_is : (b : ℕ) → is_ascii_alphanumeric b ≡ alnum b
unfolding alnum
alnum_is b = simp (in_range_is 0x30 0x39 b, in_range_is 0x41 0x5A b, in_range_is 0x61 0x7A b) (go (within 0x30 0x39 b) (within 0x41 0x5A b) (within 0x61 0x7A b))
  where
    go : (x y z : Bool) → (x || y) || z ≡ pick x true (pick y true z)
    go true y z = refl
    go false true z = refl
    go false false z = refl

pub run_most : {A : Type 0} (p : A → Bool) (s : List A) → run p s ≤ length s
run_most p s = rw (← run_is p s) (prefix_len-le-length p s)

module _ {A : Type 0} (p : A → Bool) (s : List A) (at : ℕ) where
  pub run_out : length s ≤ at → at ≡ run_end p s at
  unfolding run_end run
  run_out h = rw (drop_of_length-le s h, add-zero)

  pub run_stop : (d : A) → at < length s → p (get_or s at d) ≡ false → at ≡ run_end p s at
  unfolding run_end run
  run_stop d h e = rw (drop-cons s at d h) (simp (e, add-zero))

  pub run_go : (d : A) → at < length s → p (get_or s at d) ≡ true → run_end p s at ≡ run_end p s (at + 1)
  unfolding run_end run
  run_go d h e = rw (drop-cons s at d h, add-one) (simp e (omega arith))

  pub run_from : at ≤ run_end p s at
  unfolding run_end
  run_from = omega arith

  pub run_within : at ≤ length s → run_end p s at ≤ length s
  unfolding run_end
  run_within h = let k = run_most p (drop at s) in let e = length-drop at s in omega arith

  -- a run that is not empty begins with one of its kind
  pub run_first : (d : A) → at < run_end p s at → p (get_or s at d) ≡ true
  unfolding run_end
  run_first d h =
      let k : 0 < prefix_len p (drop at s) = rw (run_is p (drop at s)) (omega arith) in
      rw (get_or-drop at s 0 d, add-zero) at (prefix_len_passes p (drop at s) 0 d k)

-- a run as long as the list: all are of the kind
pub run_all : {A : Type 0} (p : A → Bool) (s : List A) (k : ℕ) (d : A) → run p s ≡ length s → k < length s → p (get_or s k d) ≡ true
run_all p s k d e h = prefix_len_passes p s k d (rw (run_is p s) (omega arith))
