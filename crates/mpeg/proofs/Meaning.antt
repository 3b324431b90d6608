-- The parameters of an accepted text mean the numbers that its lines give, over the contract of `read` as the checker reads it.
use Prim.Native.Nat.{ℕ, ◌-◌, ◌<◌}
use mathlib.Core.Path.{◌≡◌, refl, sym, ◌∙◌, ap}
use mathlib.Core.Bool.{Bool, true, false}
use mathlib.Core.List.{List}
use native.Mathlib.Omega.{arith}
use borrow.Author.Tests.{eqb-true, eqb-false}
use lib.ListN.{length, get_or, set, take, replicate, length-set, get_or-replicate}
use lib.Seq.{get_or-set_same, get_or-set_other}
use lib.Dec.{eqb}
use contract.Lifetimes.{Lfts}
use borrow.Fn.Kinds.{ended_of, Dens}
use denote.Triple.Clauses.{AtExit}
use Rattle.std.specs.Prelude.{Option, Some, None, Result, Ok, Err, ⊤}
use Rattle.plate.specs.Choice.{pick, within}
use Rattle.plate.specs.Plate.{refusal}
use Rattle.text.specs.Text.{text_ok}
use Rattle.mpeg_parameter.specs.Table.{table, row_at, required, least, most}
use Rattle.mpeg_parameter.specs.Parameters.{amount_of, given, number_of, wanting, lacking, value_at, parameters_of}
use Rattle.mpeg_parameter.specs.Meaning.{meaning_of}
use Rattle.mpeg_parameter.specs.declared.Parameters.{Parameters}
use Rattle.plate.specs.declared.Refusal.{Refusal}
use Rattle.plate.specs.declared.Fault.TheVariants as fault
use Rattle.mpeg_parameter.proofs.Laws.{none_wanting}
use Rattle.mpeg_parameter.proofs.Meaning.{meant, value_means}
use Rattle.mpeg.specs.Lines.{Lines, done, malformed, line, lines_at}
use Rattle.mpeg.specs.Read.{Judged, judge_lines, taken, ended, parameters_answer, read_of}
use Rattle.mpeg.specs.Meaning.{none, is, listed, given_by, given_in, or_zero, Means}
use Rattle.mpeg.proofs.read.Kinds as kinds
use Rattle.mpeg.proofs.read.Reads as reads

-- a line of row j, and lines that are fine: it gave its row's slot its number, where none was; and the rest is fine from there
module _ (slots : List (Option ℕ)) (p j : ℕ) (v : List ℕ) (rest : Lines) where
  abbrev OnWith : List (Option ℕ) → Type 0
  OnWith next = (judge_lines slots (line p (Some j) v rest) ≡ judge_lines next rest) × ((judge_lines next rest).verdict ≡ (Ok tt))

  abbrev Step : Type 0
  Step = (n : ℕ) × (amount_of (row_at j) v ≡ Some n) × (get_or slots j None ≡ None) × OnWith (set slots j (Some n))

  step : (judge_lines slots (line p (Some j) v rest)).verdict ≡ (Ok tt) → Step
  unfolding judge_lines taken
  step = go (amount_of (row_at j) v) (get_or slots j None) refl refl
    where
      go : (m b : Option ℕ) → amount_of (row_at j) v ≡ m → get_or slots j None ≡ b → (judge_lines slots (line p (Some j) v rest)).verdict ≡ (Ok tt) → Step
      go None b q r e = absurd (let w = simp q at e in let z : ◌≡◌ {A = ℕ} 0 1 = cc in omega arith)
      go (Some n) None q r e = (n, q, r, (simp (q, r), simp (q, r) at e))
      go (Some n) (Some m) q r e = absurd (let w = simp (q, r) at e in let z : ◌≡◌ {A = ℕ} 0 1 = cc in omega arith)

module _ (k : ℕ) (h : k < 14) where
  abbrev slot_in : Judged → Option ℕ
  slot_in x = get_or x.slots k None

  -- a slot that a line filled stays
  kept : (ls : Lines) (slots : List (Option ℕ)) (m : ℕ) → (judge_lines slots ls).verdict ≡ (Ok tt) → get_or slots k None ≡ Some m → slot_in (judge_lines slots ls) ≡ Some m
  unfolding judge_lines taken
  kept done slots m e g = g
  kept (malformed p) slots m e g = absurd (let z : ◌≡◌ {A = ℕ} 0 1 = cc in omega arith)
  kept (line p None v rest) slots m e g = kept rest slots m e g
  kept (line p (Some j) v rest) slots m e g = go (step slots p j v rest e) (kept rest)
    where
      go : Step slots p j v rest → ((next : List (Option ℕ)) (m : ℕ) → (judge_lines next rest).verdict ≡ (Ok tt) → get_or next k None ≡ Some m → slot_in (judge_lines next rest) ≡ Some m)
          → slot_in (judge_lines slots (line p (Some j) v rest)) ≡ Some m
      go (n, a, z, (f, d)) on =
          let o = get_or-set_other slots j k (Some n) None (λ q. let x : get_or slots k None ≡ None = rw q z in let w : ◌≡◌ {A = Option ℕ} None (Some m) = sym x ∙ g in let y : ◌≡◌ {A = ℕ} 0 1 = cc in omega arith) in
          ap slot_in f ∙ on (set slots j (Some n)) m d (o ∙ g)

  -- and one that none filled is as the first line of its row gives it
  first : (ls : Lines) (slots : List (Option ℕ)) → length slots ≡ 14 → (judge_lines slots ls).verdict ≡ (Ok tt) → get_or slots k None ≡ None
      → listed k (slot_in (judge_lines slots ls)) ≡ given_by k ls
  unfolding judge_lines taken given_by
  first done slots l e g = rw g
  first (malformed p) slots l e g = absurd (let z : ◌≡◌ {A = ℕ} 0 1 = cc in omega arith)
  first (line p None v rest) slots l e g = first rest slots l e g
  first (line p (Some j) v rest) slots l e g = go (eqb j k) refl (step slots p j v rest e) (first rest)
    where
      go : (b : Bool) → eqb j k ≡ b → Step slots p j v rest
          → ((next : List (Option ℕ)) → length next ≡ 14 → (judge_lines next rest).verdict ≡ (Ok tt) → get_or next k None ≡ None → listed k (slot_in (judge_lines next rest)) ≡ given_by k rest)
          → listed k (slot_in (judge_lines slots (line p (Some j) v rest))) ≡ pick b (listed k (amount_of (row_at k) v)) (given_by k rest)
      go true q (n, a, z, (f, d)) on =
          let w = eqb-true j k q in
          let s : get_or (set slots j (Some n)) k None ≡ Some n = rw (← w) (get_or-set_same slots j (Some n) None (omega arith)) in
          let t = kept rest (set slots j (Some n)) n d s in
          let u : amount_of (row_at k) v ≡ Some n = rw (← w) a in
          ap (λ x. listed k (slot_in x)) f ∙ ap (λ x. listed k x) (t ∙ sym u)
      go false q (n, a, z, (f, d)) on =
          let w = eqb-false j k q in
          let o = get_or-set_other slots j k (Some n) None (λ i. w (sym i)) in
          ap (λ x. listed k (slot_in x)) f ∙ on (set slots j (Some n)) (length-set slots j (Some n) ∙ l) d (o ∙ g)

module _ (k : ℕ) where
  -- a slot's number is what it gives
  number_told : (slot : Option ℕ) → number_of (row_at k) slot ≡ or_zero (listed k slot)
  unfolding number_of given
  number_told None = refl
  number_told (Some n) = go (within (least (row_at k)) (most (row_at k)) n)
    where
      go : (b : Bool) → pick b n 0 ≡ or_zero (pick b (is n) none)
      go true = refl
      go false = refl

  must_told : (slot : Option ℕ) → required (row_at k) ≡ true → wanting (row_at k) slot ≡ false → listed k slot ≡ is (number_of (row_at k) slot)
  unfolding number_of wanting given
  must_told None r e = absurd (let w = simp r at e in let z : ◌≡◌ {A = ℕ} 0 1 = cc in omega arith)
  must_told (Some n) r e = go (within (least (row_at k)) (most (row_at k)) n) (simp r at e)
    where
      go : (b : Bool) → pick b false true ≡ false → pick b (is n) none ≡ is (pick b n 0)
      go true e = refl
      go false e = absurd (let z : ◌≡◌ {A = ℕ} 0 1 = cc in omega arith)

-- what gives parameters has fine lines and lacks nothing
gave : (a : Bool) (slots : List (Option ℕ)) (w : Result ⊤ Refusal) (x : Parameters) → pick a (ended slots w) (Err (refusal fault.Text 0)) ≡ Ok x
    → (w ≡ (Ok tt)) × (lacking slots 14 ≡ false) × (x ≡ parameters_of slots)
unfolding parameters_answer
gave false slots w x e = absurd (let z : ◌≡◌ {A = ℕ} 0 1 = cc in omega arith)
gave true slots (Err r) x e = absurd (let z : ◌≡◌ {A = ℕ} 0 1 = cc in omega arith)
gave true slots (Ok _) x e = go (lacking slots 14) refl e
  where
    go : (b : Bool) → lacking slots 14 ≡ b → pick b (Err (refusal fault.NotGiven 0)) (Ok (parameters_of slots)) ≡ Ok x
        → (◌≡◌ {A = Result ⊤ Refusal} (Ok tt) (Ok tt)) × (lacking slots 14 ≡ false) × (x ≡ parameters_of slots)
    go true q e = absurd (let z : ◌≡◌ {A = ℕ} 0 1 = cc in omega arith)
    go false q e = (refl, q, cc)

abbrev judged : List ℕ → Judged
judged v = judge_lines (replicate 14 None) (lines_at (take (length v - 1) v) 0)

module _ (v : List ℕ) (f : (judged v).verdict ≡ (Ok tt)) (k : ℕ) (h : k < 14) where
  told_given : listed k (get_or (judged v).slots k None) ≡ given_in v k
  unfolding given_in
  told_given = first k h (lines_at (take (length v - 1) v) 0) (replicate 14 None) refl f (get_or-replicate 14 k None None h)

  value_given_lem : meaning_of (value_at (judged v).slots k) ≡ meant (row_at k) (or_zero (given_in v k))
  value_given_lem = value_means (row_at k) _ ∙ ap (λ n. meant (row_at k) n) (number_told k _ ∙ ap or_zero told_given)

  -- a required parameter is given a number, and means it
  value_must : required (row_at k) ≡ true → lacking (judged v).slots 14 ≡ false
      → (n : ℕ) × (given_in v k ≡ is n) × (meaning_of (value_at (judged v).slots k) ≡ meant (row_at k) n)
  value_must r l = (
    number_of (row_at k) (get_or (judged v).slots k None),
    sym told_given ∙ must_told k _ r (none_wanting _ 14 l k h),
    value_means (row_at k) _,
  )

slots_mean : (v : List ℕ) → (judged v).verdict ≡ (Ok tt) → lacking (judged v).slots 14 ≡ false → Means v (parameters_of (judged v).slots)
unfolding parameters_of row_at table meant
slots_mean v f l =
    record {
      ver = value_must v f 0 (omega arith) refl l;
      br = value_must v f 1 (omega arith) refl l;
      ipg = value_must v f 2 (omega arith) refl l;
      ppi = value_must v f 3 (omega arith) refl l;
      bpiop = value_must v f 4 (omega arith) refl l;
      pix = value_must v f 5 (omega arith) refl l;
      cf = value_must v f 6 (omega arith) refl l;
      cg = value_must v f 7 (omega arith) refl l;
      sl = value_must v f 8 (omega arith) refl l;
      nl16 = value_must v f 9 (omega arith) refl l;
      vi = value_must v f 10 (omega arith) refl l;
      f1 = value_must v f 11 (omega arith) refl l;
      cbpg = value_given_lem v f 12 (omega arith);
      ar = value_given_lem v f 13 (omega arith);
    }

pub means : (v : List ℕ) (x : Parameters) → read_of v ≡ Ok x → Means v x
unfolding read_of
means v x e =
    let g = gave (text_ok v) (judged v).slots (judged v).verdict x e in
    rw g.2 (slots_mean v g.0 g.1)

-- so the parameters that `read` gives mean that, whatever outcome its contract allows
pub read_means : (κs : Lfts 1) (a : Dens κs kinds.ps) (x : Parameters) (s : AtExit (ended_of 1 kinds.ps kinds.r) κs) → reads.Post κs a (Ok x) s → Means a.0.now x
read_means κs a x s p = means a.0.now x (sym p)
