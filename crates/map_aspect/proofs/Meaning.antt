-- The aspect of a track is the paper's number: the bit of a valid 4D, or `ar` of a 4F that reads as auxiliary text; else it is unknown.
use Prim.Native.Nat.{ℕ, zero, suc, ◌-◌, ◌/◌, ◌%◌, ◌<◌}
use mathlib.Core.Path.{◌≡◌, refl, sym, ap, ◌∙◌}
use mathlib.Core.Bool.{Bool, true, false}
use mathlib.Core.Logic.{◌⊎◌, inl, inr, ⊎_elim}
use mathlib.Core.List.{List, []}
use native.Mathlib.Omega.{arith}
use lib.ListN.{length, get_or, take}
use lib.Dec.{eqb, leb}
use borrow.Author.Tests.{eqb-true, eqb-false, ne_eqb, leb-true}
use Rattle.std.specs.Prelude.{Option, Some, None, Ok, Err}
use Rattle.plate.specs.Choice.{pick, within}
use Rattle.plate.proofs.Tests.{no_choice}
use Rattle.plate.specs.declared.Refusal.{Refusal}
use Rattle.text.specs.Text.{text_ok}
use Rattle.media_type.specs.MediaType.{mpeg_type}
use Rattle.mpeg_parameter.specs.Meaning.{number, meaning_of}
use Rattle.mpeg_parameter.specs.declared.Parameters.{Parameters}
use Rattle.mpeg_parameter.specs.declared.ParameterValue.{ParameterValue}
use Rattle.mpeg_parameter.specs.declared.ParameterValue.TheVariants.{Whole, Rate}
use Rattle.mpeg_parameter.specs.Table.{table, row_at}
use Rattle.mpeg_parameter.specs.Parameters.{amount_of}
use Rattle.mpeg.specs.Lines.{Lines, done, malformed, line, lines_at}
use Rattle.mpeg.specs.Meaning.{none, is, listed, given_by, given_in, or_zero, is_row}
use Rattle.mpeg.specs.Read.{read_of}
use Rattle.mpeg.proofs.Meaning.{means}
use Rattle.map_aspect.specs.Aspect.{aspect_for, bit_at, validity, dv_aspect, by_ar, text_aspect, aspect_of}
use Rattle.map_aspect.specs.Meaning.{number_of, Mpeg, Worth, Valid, AspectSays, NoneShown}
use Rattle.map_aspect.specs.declared.Aspect.TheVariants.{Unknown}
use Rattle.map_aspect.proofs.Laws.{validity_is, low_bit, short}

-- 0 and 1 are the numbers of an aspect
pub number_is : (n : ℕ) → n < 2 → number_of (aspect_for n) ≡ is n
unfolding number_of aspect_for
number_is zero h = refl
number_is (suc zero) h = refl
number_is (suc (suc n)) h = absurd (omega arith)

bit_under : (k : ℕ) (v : List ℕ) → bit_at k v < 2
unfolding bit_at
bit_under k v = omega arith

-- the definition's bits, by bytes
bit_4 : (v : List ℕ) → bit_at 4 v ≡ get_or v 0 0 / 16 % 2
unfolding bit_at
bit_4 v = refl

is_valid : (v : List ℕ) → Valid v → validity v ≡ 1
is_valid v e = sym (validity_is v (omega (arith, e.1))) ∙ omega (arith, e.0, e.1)

valid_is : (v : List ℕ) → get_or v 3 0 < 256 → validity v ≡ 1 → Valid v
valid_is v h e = let q = validity_is v h in (omega (arith, q, e), omega (arith, q, e))

by_valid : (k : ℕ) (v : List ℕ) → Valid v → number_of (dv_aspect k v) ≡ is (bit_at k v)
unfolding dv_aspect
by_valid k v e = rw (is_valid v e) (number_is (bit_at k v) (bit_under k v))

by_invalid : (k : ℕ) (v : List ℕ) → get_or v 3 0 < 256 → (Valid v → ⊥) → dv_aspect k v ≡ Unknown
unfolding dv_aspect
by_invalid k v h e = simp (ne_eqb (validity v) 1 (λ q. e (valid_is v h q)))

-- a type with a bit is no MPEG type, and its aspect is by that bit
module _ (media_type : ℕ) (aux text : List ℕ) where
  by_25 : (media_type ≡ 13) ⊎ (media_type ≡ 14) → aspect_of media_type aux text ≡ dv_aspect 4 aux
  unfolding aspect_of mpeg_type
  by_25 (inl e) = rw e refl
  by_25 (inr e) = rw e refl

  by_50 : (media_type ≡ 15) ⊎ (media_type ≡ 16) → aspect_of media_type aux text ≡ dv_aspect 0 aux
  unfolding aspect_of mpeg_type
  by_50 (inl e) = rw e refl
  by_50 (inr e) = rw e refl

  says_valid : (w : ℕ) → Worth media_type w → Valid aux → number_of (aspect_of media_type aux text) ≡ is (get_or aux 0 0 / w % 2)
  says_valid w (inl (t, q)) e = rw (by_25 t, q, ← bit_4 aux) (by_valid 4 aux e)
  says_valid w (inr (t, q)) e = rw (by_50 t, q) (by_valid 0 aux e ∙ ap is (sym (low_bit aux) ∙ omega arith))

  says_invalid : (w : ℕ) → Worth media_type w → get_or aux 3 0 < 256 → (Valid aux → ⊥) → aspect_of media_type aux text ≡ Unknown
  says_invalid w (inl (t, q)) h e = by_25 t ∙ by_invalid 4 aux h e
  says_invalid w (inr (t, q)) h e = by_50 t ∙ by_invalid 0 aux h e

-- the list of MPEG types, by its numbers
pub mpeg_is : (t : ℕ) → Mpeg t → mpeg_type t ≡ true
unfolding mpeg_type
mpeg_is t (inl e) = rw e refl
mpeg_is t (inr (inl e)) = rw e refl
mpeg_is t (inr (inr (inl e))) = rw e refl
mpeg_is t (inr (inr (inr (inl e)))) = rw e refl
mpeg_is t (inr (inr (inr (inr e)))) = rw e refl

in_two : (t first last : ℕ) → last ≡ suc first → within first last t ≡ true → (t ≡ first) ⊎ (t ≡ last)
in_two t first last q = go (leb first t) (leb t last) refl refl (eqb t first) refl
  where
    go : (a b : Bool) → leb first t ≡ a → leb t last ≡ b → (c : Bool) → eqb t first ≡ c → pick a b false ≡ true → (t ≡ first) ⊎ (t ≡ last)
    go true true f g true h e = inl (eqb-true _ _ h)
    go true true f g false h e = let w = eqb-false t first h in let x = leb-true first t f in let y = leb-true t last g in inr (omega arith)
    go true false f g c h e = absurd (let z : ◌≡◌ {A = ℕ} 0 1 = cc in omega arith)
    go false b f g c h e = absurd (let z : ◌≡◌ {A = ℕ} 0 1 = cc in omega arith)

is_mpeg : (t : ℕ) → mpeg_type t ≡ true → Mpeg t
unfolding mpeg_type
is_mpeg t = go (within 11 12 t) refl (eqb t 20) refl (within 22 23 t) refl
  where
    go : (a : Bool) → within 11 12 t ≡ a → (b : Bool) → eqb t 20 ≡ b → (c : Bool) → within 22 23 t ≡ c → pick a true (pick b true c) ≡ true → Mpeg t
    go true f b g c h e = ⊎_elim (λ x. inl x) (λ x. inr (inl x)) (in_two t 11 12 refl f)
    go false f true g c h e = inr (inr (inl (eqb-true t 20 g)))
    go false f false g true h e = inr (inr (inr (in_two t 22 23 refl h)))
    go false f false g false h e = absurd (let z : ◌≡◌ {A = ℕ} 0 1 = cc in omega arith)

no_mpeg : (t : ℕ) → (Mpeg t → ⊥) → (b : Bool) → mpeg_type t ≡ b → b ≡ false
no_mpeg t f true e = absurd (f (is_mpeg t e))
no_mpeg t f false e = refl

-- `ar` is a whole number, and no rate
whole : (x : ParameterValue) (n : ℕ) → n < 2 → meaning_of x ≡ number n → number_of (by_ar x) ≡ is n
unfolding meaning_of
whole (Whole m) n h e = let q : m ≡ n = cc in rw q (number_is n h)
whole (Rate x) n h e = absurd (let z : ◌≡◌ {A = ℕ} 0 1 = cc in omega arith)

-- a listed `ar` is 0 or 1
listed_under : (a : Option ℕ) → or_zero (listed 13 a) < 2
unfolding row_at table
listed_under None = omega arith
listed_under (Some n) = go (leb 0 n) (leb n 1) refl
  where
    go : (a b : Bool) → leb n 1 ≡ b → or_zero (pick (pick a b false) (is n) none) < 2
    go true true q = omega (arith, leb-true n 1 q)
    go true false q = omega arith
    go false b q = omega arith

by_lines : (l : Lines) → or_zero (given_by 13 l) < 2
unfolding given_by
by_lines done = omega arith
by_lines (malformed p) = omega arith
by_lines (line p row v rest) = go (is_row 13 row) (by_lines rest)
  where
    go : (b : Bool) → or_zero (given_by 13 rest) < 2 → or_zero (pick b (listed 13 (amount_of (row_at 13) v)) (given_by 13 rest)) < 2
    go true h = listed_under (amount_of (row_at 13) v)
    go false h = h

ar_under : (v : List ℕ) → or_zero (given_in v 13) < 2
unfolding given_in
ar_under v = by_lines (lines_at (take (length v - 1) v) 0)

module _ (media_type : ℕ) (aux text : List ℕ) where
  pub by_text : Mpeg media_type → aspect_of media_type aux text ≡ text_aspect text
  unfolding aspect_of
  by_text m = rw (mpeg_is media_type m)

  says_answers : Mpeg media_type → (x : Parameters) → read_of text ≡ Ok x
      → (n : ℕ) × (meaning_of x.ar ≡ number n) × (n ≡ or_zero (given_in text 13)) × (n < 2) × (number_of (aspect_of media_type aux text) ≡ is n)
  unfolding text_aspect
  says_answers m x e =
      let k = or_zero (given_in text 13) in
      let a : meaning_of x.ar ≡ number k = (means text x e).ar in
      (k, a, refl, ar_under text, rw (by_text m, e) (whole x.ar k (ar_under text) a))

  says_refuses : Mpeg media_type → (r : Refusal) → read_of text ≡ Err r → aspect_of media_type aux text ≡ Unknown
  unfolding text_aspect
  says_refuses m r e = by_text m ∙ rw e

  says_other : (Mpeg media_type → ⊥) → ((w : ℕ) → Worth media_type w → ⊥) → aspect_of media_type aux text ≡ Unknown
  unfolding aspect_of
  says_other m none_of = rw (no_mpeg media_type m (mpeg_type media_type) refl) (go (within 13 14 media_type) (within 15 16 media_type) refl refl)
    where
      go : (a b : Bool) → within 13 14 media_type ≡ a → within 15 16 media_type ≡ b → pick a (dv_aspect 4 aux) (pick b (dv_aspect 0 aux) Unknown) ≡ Unknown
      go true b f g = absurd (none_of 16 (inl (in_two media_type 13 14 refl f, refl)))
      go false true f g = absurd (none_of 1 (inr (in_two media_type 15 16 refl g, refl)))
      go false false f g = refl

  pub aspect_says : AspectSays media_type aux text
  aspect_says =
      record {
        valid = says_valid media_type aux text;
        invalid = says_invalid media_type aux text;
        answers = says_answers;
        refuses = says_refuses;
        other = says_other;
      }

-- no byte is no aspect
dv_none : (k : ℕ) → dv_aspect k [] ≡ Unknown
unfolding dv_aspect
dv_none k = simp (short [] (omega arith))

by_none : (t : ℕ) (text : List ℕ) → mpeg_type t ≡ false → aspect_of t [] text ≡ Unknown
unfolding aspect_of
by_none t text m = rw (m, dv_none 4, dv_none 0, no_choice (within 15 16 t) Unknown) (no_choice (within 13 14 t) Unknown)

text_none : text_aspect [] ≡ Unknown
unfolding text_aspect read_of text_ok
text_none = refl

either : (t : ℕ) (b : Bool) → mpeg_type t ≡ b → aspect_of t [] [] ≡ Unknown
either t true m = by_text t [] [] (is_mpeg t m) ∙ text_none
either t false m = by_none t [] m

pub none_shown : NoneShown
none_shown =
    record {
      no_text = λ t aux m. by_text t aux [] m ∙ text_none;
      no_bits = λ t text f. by_none t text (no_mpeg t f (mpeg_type t) refl);
      neither = λ t. either t (mpeg_type t) refl;
    }
