-- The judge at the lines from a place on: at the end, at a malformed line, at a line that is passed over.
use Prim.Native.Nat.{ℕ, ◌+◌, ◌<◌, ◌≤◌}
use mathlib.Core.Path.{◌≡◌, ◌∙◌}
use mathlib.Core.List.{List}
use native.Mathlib.Omega.{arith}
use borrow.Author.Tests.{lt-ltb, le-ltb}
use lib.ListN.{length}
use Rattle.std.specs.Prelude.{Option, Some, None, Ok, Err}
use Rattle.mpeg.specs.Lines.{Lines, value_end, value_then, label_at, lines_at}
use Rattle.plate.specs.Part.{part}
use Rattle.mpeg.specs.Read.{fine, bad, judge_lines, taken}
use Rattle.mpeg.specs.Inside.{Skipped}
use Rattle.plate.specs.declared.Refusal.{Refusal}
use Rattle.plate.specs.declared.Fault.TheVariants as fault
use Rattle.mpeg.proofs.Turns.{next_in, lines_turn, lines_end}

pub judge_end : (s : List ℕ) (at : ℕ) → length s ≤ at → (slots : List (Option ℕ)) → judge_lines slots (lines_at s at) ≡ fine slots
unfolding judge_lines
judge_end s at h slots = rw (lines_end s at h)

module _ (s : List ℕ) (at : ℕ) (h : at < length s) where
  pub judge_broken : label_at s at ≡ None → (slots : List (Option ℕ)) → judge_lines slots (lines_at s at) ≡ bad fault.AuxiliaryLine at slots
  unfolding judge_lines
  judge_broken e slots = rw (lines_turn s at h, e)

  pub judge_names : (k : Option ℕ) (v : ℕ) → label_at s at ≡ Some (record { row = k; value = v }) → (slots : List (Option ℕ)) → judge_lines slots (lines_at s at) ≡ judge_lines slots (value_then s at k v (lines_at s))
  judge_names k v e slots = rw (lines_turn s at h, e)

  -- an unknown identifier's line is passed over
  pub judge_unknown : (v : ℕ) → label_at s at ≡ Some (record { row = None; value = v }) → value_end s v < length s
      → (slots : List (Option ℕ)) → judge_lines slots (lines_at s at) ≡ judge_lines slots (lines_at s (value_end s v + 1))
  unfolding judge_lines taken
  judge_unknown v e m slots = judge_names None v e slots ∙ simp (lt-ltb (value_end s v) (length s) m)

  pub skip_more : (from v : ℕ) → Skipped s from at → label_at s at ≡ Some (record { row = None; value = v }) → value_end s v < length s → Skipped s from (value_end s v + 1)
  skip_more from v p e m =
      let g = next_in s at None v e in
      (omega arith, omega arith, λ slots. p.2 slots ∙ judge_unknown v e m slots)

-- at a value that ends at e: cut off, at fault, or taken
module _ (s : List ℕ) (p : ℕ) (k : Option ℕ) (at e : ℕ) (rest : ℕ → Lines) (u : e ≡ value_end s at) (slots : List (Option ℕ)) where
  pub judge_cut : length s ≤ e → judge_lines slots (value_then s p k at rest) ≡ bad fault.AuxiliaryLine p slots
  unfolding judge_lines
  judge_cut h = rw (← u) (simp (le-ltb e (length s) h))

  module _ (h : e < length s) where
    pub judge_fault : (r : Refusal) → (taken slots p k (part at e s)).verdict ≡ Err r
        → judge_lines slots (value_then s p k at rest) ≡ record { verdict = Err r; slots = (taken slots p k (part at e s)).slots }
    unfolding judge_lines
    judge_fault r f = rw (← u) (simp (lt-ltb e (length s) h, f))

    pub judge_taken : (taken slots p k (part at e s)).verdict ≡ (Ok tt)
        → judge_lines slots (value_then s p k at rest) ≡ judge_lines (taken slots p k (part at e s)).slots (rest (e + 1))
    unfolding judge_lines
    judge_taken f = rw (← u) (simp (lt-ltb e (length s) h, f))
