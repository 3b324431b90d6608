-- Which numbers the refusal of an auxiliary text can have: 10, 11, 26 and 27; no bytes lack with them.
use Prim.Native.Nat.{ℕ, ◌-◌}
use mathlib.Core.Path.{◌≡◌, refl, subst}
use mathlib.Core.List.{List}
use native.Mathlib.Omega.{arith}
use lib.ListN.{length, get_or, take, replicate}
use Rattle.std.specs.Prelude.{is_some, Option, Some, None, Result, Ok, Err, ⊤}
use Rattle.plate.specs.declared.Refusal.{Refusal}
use Rattle.mpeg_parameter.specs.declared.Parameters.{Parameters}
use Rattle.plate.proofs.Numbers.{either, Among}
use Rattle.text.specs.Text.{text_ok}
use Rattle.mpeg_parameter.specs.Table.{row_at}
use Rattle.mpeg_parameter.specs.Parameters.{amount_of, lacking}
use Rattle.mpeg.specs.Lines.{Lines, done, malformed, line, lines_at}
use Rattle.mpeg.specs.Read.{Judged, noted, taken, on_from, judge_lines, parameters_answer, ended, read, read_of}

abbrev OfVerdict : Result ⊤ Refusal → Type 0
OfVerdict (Ok tt) = Unit {0}
OfVerdict (Err r) = Among 10 27 r

abbrev OfJudged : Judged → Type 0
OfJudged j = OfVerdict j.verdict

taken_numbers : (slots : List (Option ℕ)) (p : ℕ) (row : Option ℕ) (v : List ℕ) → OfJudged (taken slots p row v)
unfolding taken
taken_numbers slots p None v = tt
taken_numbers slots p (Some k) v = by_amount (amount_of (row_at k) v)
  where
    by_amount : (a : Option ℕ) → OfJudged (noted slots p k a)
    by_amount None = (omega arith, omega arith, λ n. refl)
    by_amount (Some n) = either OfJudged (is_some (get_or slots k None)) (omega arith, omega arith, λ n. refl) tt

lines_numbers : (ls : Lines) (slots : List (Option ℕ)) → OfJudged (judge_lines slots ls)
unfolding judge_lines
lines_numbers done slots = tt
lines_numbers (malformed p) slots = (omega arith, omega arith, λ n. refl)
lines_numbers (line p k v rest) slots = on (λ next. judge_lines next rest) (lines_numbers rest) (taken slots p k v).slots (taken slots p k v).verdict (taken_numbers slots p k v)
  where
    on : (next : List (Option ℕ) → Judged) → ((xs : List (Option ℕ)) → OfJudged (next xs)) → (xs : List (Option ℕ)) (a : Result ⊤ Refusal) → OfVerdict a → OfJudged (on_from next xs a)
    on next h xs (Ok tt) i = h xs
    on next h xs (Err r) i = i

abbrev OfText : Result Parameters Refusal → Type 0
OfText (Ok x) = Unit {0}
OfText (Err r) = Among 10 27 r

read_numbers : (j : Judged) → OfJudged j → OfText (read j)
unfolding parameters_answer
read_numbers j h = go j.verdict h
  where
    go : (a : Result ⊤ Refusal) → OfVerdict a → OfText (ended j.slots a)
    go (Ok tt) i = either OfText (lacking j.slots 14) (omega arith, omega arith, λ n. refl) tt
    go (Err r) i = i

text_numbers : (v : List ℕ) → OfText (read_of v)
unfolding read_of
text_numbers v = either OfText (text_ok v) (read_numbers (judge_lines (replicate 14 None) (lines_at (take (length v - 1) v) 0)) (lines_numbers (lines_at (take (length v - 1) v) 0) (replicate 14 None))) (omega arith, omega arith, λ n. refl)

pub text_refused : (s : List ℕ) (r : Refusal) → read_of s ≡ Err r → Among 10 27 r
text_refused s r e = subst OfText e (text_numbers s)
