-- A section walked, a turn at a time, and what a step tells.
use Prim.Native.Nat.{ℕ, suc, ◌+◌, ◌-◌, ◌<◌, ◌≤◌}
use mathlib.Core.Path.{◌≡◌, refl, sym, ◌∙◌}
use mathlib.Core.Logic.{◌⊎◌, inl, inr}
use mathlib.Core.Bool.{Bool, true, false}
use mathlib.Core.List.{List}
use native.Mathlib.Omega.{arith}
use native.Mathlib.Nat.{add-zero}
use lib.ListN.{length, take, drop, length-drop}
use lib.Seq.{length-take-le, drop-drop, take_all}
use lib.Dec.{leb, eqb}
use borrow.Author.Tests.{lt-leb, leb-true}
use Rattle.plate.specs.Choice.{pick, within}
use Rattle.umf.specs.Split.{least_of, stated_of, is_counted, step_of, walk, split_of, size_of}
use Rattle.umf.specs.Inside.{walked_of}
use Rattle.umf.specs.declared.Described.{Described}
use Rattle.umf.specs.declared.Step.TheVariants.{More, Used, Over}
use Rattle.umf.specs.declared.Walked.{Walked}

-- with fewer bytes than the fixed fields no length fits
pub under : (least left m : ℕ) → left < least → within least left m ≡ false
under least left m h = go (leb least m) refl
  where
    go : (b : Bool) → leb least m ≡ b → pick b (leb m left) false ≡ false
    go true e = lt-leb m left (omega (arith, leb-true least m e))
    go false e = refl

-- nor does one under them, or over what is left
pub outside : (least left m : ℕ) → (m < least) ⊎ ((least ≤ m) × (left < m)) → within least left m ≡ false
outside least left m (inl h) = rw (lt-leb least m h)
outside least left m (inr h) = go (leb least m)
  where
    go : (b : Bool) → pick b (leb m left) false ≡ false
    go true = lt-leb m left h.1
    go false = refl

-- one more has its fixed fields and stands within what is left
pub record Fits (k : Described) (s : List ℕ) (m : ℕ) : Type 0 where
  pub stated : m ≡ stated_of k s
  pub least : least_of k ≤ m
  pub most : m ≤ length s

pub more : (k : Described) (s : List ℕ) (m : ℕ) → step_of k s ≡ More m → Fits k s m
unfolding step_of
more k s m = go (pick (is_counted k) false (eqb (length s) 0)) (leb (least_of k) (stated_of k s)) (leb (stated_of k s) (length s)) refl refl
  where
    go : (a b c : Bool) → leb (least_of k) (stated_of k s) ≡ b → leb (stated_of k s) (length s) ≡ c → pick a Used (pick (pick b c false) (More (stated_of k s)) Over) ≡ More m → Fits k s m
    go true b c p q e = absurd (let z : ◌≡◌ {A = ℕ} 0 1 = cc in omega arith)
    go false false c p q e = absurd (let z : ◌≡◌ {A = ℕ} 0 1 = cc in omega arith)
    go false true false p q e = absurd (let z : ◌≡◌ {A = ℕ} 0 1 = cc in omega arith)
    go false true true p q e =
        let f : m ≡ stated_of k s = cc in
        record { stated = f; least = omega (arith, leb-true (least_of k) (stated_of k s) p); most = omega (arith, leb-true (stated_of k s) (length s) q) }

-- the rest of a section, as a slice from a place on has it
pub rest : (d : List ℕ) (at : ℕ) → at ≤ length d → take (length d - at) (drop at d) ≡ drop at d
rest d at h = take_all (length d - at) (drop at d) (omega (arith, length-drop at d))

-- a walk's numbers, behind i that take at bytes
abbrev pub added : ℕ → ℕ → Walked → Walked
added i at w = record { number = i + w.number; bytes = at + w.bytes; whole = w.whole }

-- what is left to walk from here is the whole walk
pub record Left (k : Described) (d : List ℕ) (count at i : ℕ) : Type 0 where
  pub inside : at ≤ length d
  pub few : i ≤ count
  pub same : walked_of (split_of k count d) ≡ added i at (walked_of (split_of k (count - i) (drop at d)))

module _ (k : Described) (d : List ℕ) (count at i : ℕ) (l : Left k d count at i) where
  pub on_all : count ≤ i → record { number = count; bytes = at; whole = true } ≡ walked_of (split_of k count d)
  unfolding walk size_of
  on_all h =
      let e : count - i ≡ 0 = omega arith in
      let f : i + 0 ≡ count = omega (arith, l.few) in
      sym (l.same ∙ rw (e, f, add-zero at))

  module _ (h : i < count) where
    one : count - i ≡ suc (count - (i + 1))
    one = omega arith

    pub on_used : step_of k (drop at d) ≡ Used → record { number = i; bytes = at; whole = true } ≡ walked_of (split_of k count d)
    unfolding walk size_of
    on_used e = sym (l.same ∙ rw (one, e, add-zero i, add-zero at))

    pub on_over : step_of k (drop at d) ≡ Over → record { number = i; bytes = at; whole = false } ≡ walked_of (split_of k count d)
    unfolding walk size_of
    on_over e = sym (l.same ∙ rw (one, e, add-zero i, add-zero at))

    module _ (m : ℕ) (e : step_of k (drop at d) ≡ More m) where
      pub fits : at + m ≤ length d
      fits = omega (arith, (more k (drop at d) m e).most, length-drop at d, l.inside)

      pub on_more : Left k d count (at + m) (i + 1)
      unfolding walk size_of
      on_more =
          let f = length-take-le m (drop at d) (more k (drop at d) m e).most in
          record {
            inside = fits;
            few = omega arith;
            same = l.same ∙ rw (one, e, f, drop-drop) (numbers _);
          }
        where
          numbers : (w : Walked) → added i at (record { number = suc w.number; bytes = m + w.bytes; whole = w.whole }) ≡ added (i + 1) (at + m) w
          numbers w =
              let a : i + suc w.number ≡ i + 1 + w.number = omega arith in
              let b : at + (m + w.bytes) ≡ at + m + w.bytes = omega arith in
              rw (a, b)
