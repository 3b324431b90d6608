-- A code that is not absent is the signed number that its four bytes are: −2 is −2, and never 4,294,967,294. It is absent exactly where 01 does not list that number.
use Prim.Native.Nat.{ℕ, zero, suc, ◌+◌, ◌-◌, ◌<◌, ◌^◌}
use mathlib.Core.Path.{◌≡◌, refl, sym, ◌∙◌}
use mathlib.Core.Bool.{Bool, true, false}
use mathlib.Core.Logic.{◌⊎◌, inl, inr, ⊎_elim}
use mathlib.Core.List.{List, [], ◌∷◌}
use native.Mathlib.Omega.{arith}
use lib.Dec.{eqb, ltb}
use lib.IntN.{ℤ, pos, negsuc}
use borrow.Author.Tests.{eqb-true, eq-eqb, ne_eqb, lt-ltb}
use Rattle.std.specs.Prelude.{Some}
use Rattle.plate.specs.Choice.{pick}
use Rattle.plate.proofs.Tests.{no_choice}
use Rattle.map_items.specs.Judge.{has}
use Rattle.map_answer.specs.Answer.{allowed, code_of, is_progressive, OneAlone, nothing, number, meaning_of, signed, codes_of, In, CodeSays}
use Rattle.map_answer.specs.declared.Code.TheVariants as code
use Rattle.map_answer.proofs.Laws.{over_allowed, allowed_small}

pub code_means : (tag n : ℕ) → (code_of tag (Some n) ≡ code.Absent) ⊎ (meaning_of (code_of tag (Some n)) ≡ number (signed n))
unfolding code_of meaning_of signed
code_means tag n = go (eqb n 0xFFFFFFFF) (eqb n 0xFFFFFFFE) (allowed tag n) refl refl refl
  where
    go : (a b d : Bool) → eqb n 0xFFFFFFFF ≡ a → eqb n 0xFFFFFFFE ≡ b → allowed tag n ≡ d
        → (pick a code.NotApplicable (pick b code.NotAvailable (pick d (code.Is n) code.Absent)) ≡ code.Absent)
        ⊎ (meaning_of (pick a code.NotApplicable (pick b code.NotAvailable (pick d (code.Is n) code.Absent))) ≡ number (signed n))
    go true b d p q r = inr (rw (eqb-true n 0xFFFFFFFF p))
    go false true d p q r = inr (rw (eqb-true n 0xFFFFFFFE q))
    go false false true p q r = let h = allowed_small tag n r in inr (rw (lt-ltb n 0x80000000 (omega arith)))
    go false false false p q r = inl refl

-- ---- absent exactly where 01 does not list the number
-- numbers, and −1 and −2 behind them
abbrev with_common : List ℕ → List ℤ
with_common [] = negsuc 0 ∷ negsuc 1 ∷ []
with_common (n ∷ ns) = pos n ∷ with_common ns

-- a signed number tells its four bytes
as_pos : (n k : ℕ) → signed n ≡ pos k → n ≡ k
unfolding signed
as_pos n k = go (ltb n 0x80000000)
  where
    go : (b : Bool) → pick b (pos n) (negsuc (0xFFFFFFFF - n)) ≡ pos k → n ≡ k
    go true e = cc
    go false e = absurd (let z : ◌≡◌ {A = ℕ} 0 1 = cc in omega arith)

as_negsuc : (n k : ℕ) → n < 2 ^ 32 → signed n ≡ negsuc k → n + k ≡ 0xFFFFFFFF
unfolding signed
as_negsuc n k h = go (ltb n 0x80000000)
  where
    go : (b : Bool) → pick b (pos n) (negsuc (0xFFFFFFFF - n)) ≡ negsuc k → n + k ≡ 0xFFFFFFFF
    go true e = absurd (let z : ◌≡◌ {A = ℕ} 0 1 = cc in omega arith)
    go false e = let z : 0xFFFFFFFF - n ≡ k = cc in omega arith

in_list : (n : ℕ) (ns : List ℕ) → n < 0x80000000 → has n ns ≡ true → In (signed n) (with_common ns)
unfolding has In signed
in_list n [] h e = absurd (let z : ◌≡◌ {A = ℕ} 0 1 = cc in omega arith)
in_list n (m ∷ ns) h e = go (eqb n m) refl (in_list n ns h) e
  where
    go : (b : Bool) → eqb n m ≡ b → (has n ns ≡ true → In (signed n) (with_common ns)) → pick b true (has n ns) ≡ true → In (signed n) (with_common (m ∷ ns))
    go true q f e = inl (rw (lt-ltb n 0x80000000 h, eqb-true n m q))
    go false q f e = inr (f e)

of_list : (n : ℕ) (ns : List ℕ) → n < 2 ^ 32 → In (signed n) (with_common ns) → (n ≡ 0xFFFFFFFF) ⊎ ((n ≡ 0xFFFFFFFE) ⊎ (has n ns ≡ true))
unfolding has In
of_list n [] h (inl e) = let k = as_negsuc n 0 h e in inl (omega arith)
of_list n [] h (inr (inl e)) = let k = as_negsuc n 1 h e in inr (inl (omega arith))
of_list n [] h (inr (inr e)) = absurd e
of_list n (m ∷ ns) h (inl e) = inr (inr (rw (eq-eqb n m (as_pos n m e))))
of_list n (m ∷ ns) h (inr e) = ⊎_elim inl (λ x. inr (⊎_elim inl (λ y. inr (rw y (no_choice (eqb n m) true))) x)) (of_list n ns h e)

minus_1 : (ns : List ℕ) → In (negsuc 0) (with_common ns)
unfolding In
minus_1 [] = inl refl
minus_1 (m ∷ ns) = inr (minus_1 ns)

minus_2 : (ns : List ℕ) → In (negsuc 1) (with_common ns)
unfolding In
minus_2 [] = inr (inl refl)
minus_2 (m ∷ ns) = inr (minus_2 ns)

-- the code of a number: −1, −2, one with a meaning, and any other
says_minus_1 : (tag : ℕ) → meaning_of (code_of tag (Some 0xFFFFFFFF)) ≡ number (signed 0xFFFFFFFF)
unfolding code_of meaning_of signed
says_minus_1 tag = refl

says_minus_2 : (tag : ℕ) → meaning_of (code_of tag (Some 0xFFFFFFFE)) ≡ number (signed 0xFFFFFFFE)
unfolding code_of meaning_of signed
says_minus_2 tag = refl

says_allowed : (tag n : ℕ) → allowed tag n ≡ true → meaning_of (code_of tag (Some n)) ≡ number (signed n)
unfolding code_of meaning_of signed
says_allowed tag n e =
    let h = allowed_small tag n e in
    simp (ne_eqb n 0xFFFFFFFF (λ q. omega arith), ne_eqb n 0xFFFFFFFE (λ q. omega arith), e, lt-ltb n 0x80000000 (omega arith))

says_nothing : (tag n : ℕ) → (n ≡ 0xFFFFFFFF → ⊥) → (n ≡ 0xFFFFFFFE → ⊥) → allowed tag n ≡ false → meaning_of (code_of tag (Some n)) ≡ nothing
unfolding code_of meaning_of
says_nothing tag n a b e = simp (ne_eqb n 0xFFFFFFFF a, ne_eqb n 0xFFFFFFFE b, e)

module _ (tag n : ℕ) (ns : List ℕ) (h : n < 2 ^ 32) (c : codes_of tag ≡ with_common ns) (a : allowed tag n ≡ has n ns) where
  when_listed : In (signed n) (codes_of tag) → meaning_of (code_of tag (Some n)) ≡ number (signed n)
  when_listed i =
      ⊎_elim (λ e. rw e (says_minus_1 tag)) (λ x. ⊎_elim (λ e. rw e (says_minus_2 tag)) (λ e. says_allowed tag n (a ∙ e)) x)
      (of_list n ns h (rw c at i))

  not_allowed : (In (signed n) (codes_of tag) → ⊥) → (b : Bool) → allowed tag n ≡ b → b ≡ false
  not_allowed f true e = let k = allowed_small tag n e in absurd (f (rw c (in_list n ns (omega arith) (sym a ∙ e))))
  not_allowed f false e = refl

  when_other : (In (signed n) (codes_of tag) → ⊥) → meaning_of (code_of tag (Some n)) ≡ nothing
  unfolding signed
  when_other f =
      says_nothing tag n (λ e. f (rw (c, e) (minus_1 ns))) (λ e. f (rw (c, e) (minus_2 ns))) (not_allowed f (allowed tag n) refl)

  says : CodeSays tag n
  says = record { listed = when_listed; other = when_other; absent = λ e i. let q = sym (when_listed i) ∙ e in let z : ◌≡◌ {A = ℕ} 0 1 = cc in omega arith }

rates_over : (n : ℕ) → 8 < n → allowed 0x50 n ≡ has n (1 ∷ 2 ∷ 3 ∷ 4 ∷ 5 ∷ 6 ∷ 7 ∷ 8 ∷ [])
unfolding has
rates_over n h = over_allowed 0x50 n h ∙ sym (simp (ne_eqb n 1 (λ e. omega arith), ne_eqb n 2 (λ e. omega arith), ne_eqb n 3 (λ e. omega arith), ne_eqb n 4 (λ e. omega arith), ne_eqb n 5 (λ e. omega arith), ne_eqb n 6 (λ e. omega arith), ne_eqb n 7 (λ e. omega arith), ne_eqb n 8 (λ e. omega arith)))

rates : (n : ℕ) → allowed 0x50 n ≡ has n (1 ∷ 2 ∷ 3 ∷ 4 ∷ 5 ∷ 6 ∷ 7 ∷ 8 ∷ [])
unfolding allowed has
rates zero = refl
rates (suc zero) = refl
rates (suc (suc zero)) = refl
rates (suc (suc (suc zero))) = refl
rates (suc (suc (suc (suc zero)))) = refl
rates (suc (suc (suc (suc (suc zero))))) = refl
rates (suc (suc (suc (suc (suc (suc zero)))))) = refl
rates (suc (suc (suc (suc (suc (suc (suc zero))))))) = refl
rates (suc (suc (suc (suc (suc (suc (suc (suc zero)))))))) = refl
rates (suc (suc (suc (suc (suc (suc (suc (suc (suc n))))))))) = rates_over (suc (suc (suc (suc (suc (suc (suc (suc (suc n))))))))) (omega arith)

-- of the three tags, every number of four bytes
pub code_says : (tag n : ℕ) → (tag ≡ 0x50) ⊎ ((tag ≡ 0x51) ⊎ (tag ≡ 0x52)) → n < 2 ^ 32 → CodeSays tag n
unfolding codes_of allowed
code_says tag n (inl e) h = rw e (says 0x50 n (1 ∷ 2 ∷ 3 ∷ 4 ∷ 5 ∷ 6 ∷ 7 ∷ 8 ∷ []) h refl (rates n))
code_says tag n (inr (inl e)) h = rw e (says 0x51 n (1 ∷ 2 ∷ 4 ∷ 6 ∷ []) h refl refl)
code_says tag n (inr (inr e)) h = rw e (says 0x52 n (1 ∷ 2 ∷ []) h refl refl)

-- of all numbers in item 52 the frames are whole with 1 alone
pub one_alone : OneAlone
unfolding is_progressive code_of allowed has
one_alone n = go (eqb n 0xFFFFFFFF) refl (eqb n 0xFFFFFFFE) refl (eqb n 1) refl (eqb n 2)
  where
    go : (a : Bool) → eqb n 0xFFFFFFFF ≡ a → (b : Bool) → eqb n 0xFFFFFFFE ≡ b → (d : Bool) → eqb n 1 ≡ d → (e : Bool)
        → is_progressive (pick a code.NotApplicable (pick b code.NotAvailable (pick (pick d true (pick e true false)) (code.Is n) code.Absent))) ≡ d
    go true p b q d r e = sym (sym r ∙ ne_eqb n 1 (λ z. omega (arith, z, eqb-true n 0xFFFFFFFF p)))
    go false p true q d r e = sym (sym r ∙ ne_eqb n 1 (λ z. omega (arith, z, eqb-true n 0xFFFFFFFE q)))
    go false p false q true r e = r
    go false p false q false r true = r
    go false p false q false r false = refl
