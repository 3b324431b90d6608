-- A section judged: it passes the payload, or what is in it was walked.
use Prim.Native.Nat.{ℕ, zero, suc, ◌+◌, ◌-◌, ◌<◌, ◌≤◌}
use mathlib.Core.Path.{◌≡◌, refl, sym, ◌∙◌, ap}
use mathlib.Core.Bool.{true, false}
use mathlib.Core.List.{List}
use native.Mathlib.Omega.{arith}
use native.Mathlib.Nat.{add-sub_cancel_left}
use lib.ListN.{length, take, drop, length-drop}
use lib.Seq.{length-take-le}
use borrow.Author.Tests.{lt-ltb, le-ltb}
use Rattle.std.specs.Prelude.{Ok}
use Rattle.umf.specs.Split.{step_of, walk, split_of, size_of}
use Rattle.umf.specs.Inside.{walked_of}
use Rattle.umf.specs.Umf.{section_at, section_size, count_of, parts_of, bad30, section_verdict}
use Rattle.umf.specs.declared.Described.{Described}
use Rattle.umf.specs.declared.Step.{Step}
use Rattle.umf.specs.declared.Step.TheVariants.{More, Used, Over}
use Rattle.umf.specs.declared.Walked.{Walked}
use Rattle.umf.proofs.Turns.{more}

-- what was walked lies in the section
walk_within : (k : Described) (x : Step) (n : ℕ) (s : List ℕ) → step_of k s ≡ x → size_of (walk k x n s).list ≤ length s
unfolding walk size_of
walk_within k x zero s e = omega arith
walk_within k Used (suc n) s e = omega arith
walk_within k Over (suc n) s e = omega arith
walk_within k (More m) (suc n) s e =
    let f = (more k s m e).most in
    omega (arith, length-take-le m s f, length-drop m s, walk_within k (step_of k (drop m s)) n (drop m s) refl)

pub within_section : (k : Described) (n : ℕ) (s : List ℕ) → size_of (split_of k n s).list ≤ length s
within_section k n s = walk_within k (step_of k s) n s refl

-- a section's offset and size, as they were read
module _ (k : Described) (y : List ℕ) (from size : ℕ) (p : from ≡ section_at k y) (q : size ≡ section_size k y) where
  pub on_passed : length y < from + size → bad30 (21 + from) ≡ section_verdict k y
  unfolding section_verdict
  on_passed h = rw (← p, ← q, lt-ltb _ _ h)

  module _ (h : from + size ≤ length y) (w : Walked) (e : w ≡ walked_of (split_of k (count_of k y) (take (from + size - from) (drop from y)))) where
    same : w ≡ walked_of (parts_of k y)
    unfolding parts_of
    same = rw (← p, ← q) (rw add-sub_cancel_left at e)

    pub on_whole : w.whole ≡ true → (Ok tt) ≡ section_verdict k y
    unfolding section_verdict
    on_whole t = rw (← p, ← q, le-ltb _ _ h, sym (ap (λ (v : Walked). v.whole) same) ∙ t)

    pub on_stopped : w.whole ≡ false → bad30 (21 + from + w.bytes) ≡ section_verdict k y
    unfolding section_verdict
    on_stopped t = rw (← p, ← q, le-ltb _ _ h, sym (ap (λ (v : Walked). v.whole) same) ∙ t, ap (λ (v : Walked). v.bytes) same)

    pub few : w.bytes ≤ length y
    few =
        let a = within_section k (count_of k y) (take (from + size - from) (drop from y)) in
        omega (arith, ap (λ (v : Walked). v.bytes) e, length-take-le (from + size - from) (drop from y) (omega (arith, length-drop from y)), length-drop from y)
