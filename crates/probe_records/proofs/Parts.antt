-- What the contract says of the array's two parts: the first n records are as a call of `map_records::fill` on n records leaves them, and those that were not lent stay.
use Prim.Native.Nat.{ℕ, ◌≤◌}
use mathlib.Core.Path.{◌≡◌, refl, sym, ap, subst, ◌∙◌}
use mathlib.Core.List.{List, ◌++◌}
use lib.ListN.{length, take, drop}
use lib.Seq.{length-take-le, take-append_seam, drop-append_seam}
use Rattle.map_answer.specs.declared.Track.{Track}
use Rattle.map_records.specs.Fill.{records_at, answer_for, lent_after, Filled}
use Rattle.map_records.specs.Inside.{records_to_write}
use Rattle.map_records.proofs.Laws.{length_up_to, writes}
use Rattle.probe_records.specs.Lent.{after_fill}

module _ (xs : List Track) (n : ℕ) (s : List ℕ) (at : ℕ) (few : n ≤ length xs) where
  abbrev zs : List Track
  zs = lent_after (records_at s at) (take n xs) (answer_for s at n)

  taken : length (take n xs) ≡ n
  taken = length-take-le n xs few

  -- a call leaves as many records as it was lent
  as_long : length zs ≡ n
  as_long =
      subst (λ (m : ℕ). length (lent_after (records_at s at) (take n xs) (answer_for s at m)) ≡ length (take n xs)) taken
      (ap (λ (ys : List Track). length ys) (sym (writes s at (take n xs)).leaves) ∙ length_up_to (records_to_write (answer_for s at (length (take n xs)))) (records_at s at) (take n xs)) ∙ taken

  first-n : take n (after_fill xs n s at).records ≡ zs
  unfolding after_fill
  first-n = subst (λ (m : ℕ). take m (zs ++ drop n xs) ≡ zs) as_long (take-append_seam zs (drop n xs))

  pub lent_filled : Filled (take n xs) s at (after_fill xs n s at).answer (take n (after_fill xs n s at).records)
  unfolding after_fill Filled
  lent_filled = rw taken (refl, first-n)

  pub others_stay : drop n (after_fill xs n s at).records ≡ drop n xs
  unfolding after_fill
  others_stay = subst (λ (m : ℕ). drop m (zs ++ drop n xs) ≡ drop n xs) as_long (drop-append_seam zs (drop n xs))
