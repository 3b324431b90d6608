-- The lines judged in their order, and the answer read off (01, "MPEG auxiliary text").
use Rattle.std.specs.Prelude.{ℕ, ◌-◌, List, length, get_or, set, take, replicate, is_some, Option, Some, None, Result, Ok, Err, ⊤}
use Rattle.plate.specs.Choice.{pick}
use Rattle.plate.specs.Plate.{refusal}
use Rattle.text.specs.Text.{text_ok}
use Rattle.mpeg_parameter.specs.Table.{row_at}
use Rattle.mpeg_parameter.specs.Parameters.{amount_of, lacking, parameters_of}
use Rattle.mpeg.specs.Lines.{Lines, done, malformed, line, lines_at}
use Rattle.mpeg_parameter.specs.declared.ParameterValue.{ParameterValue}
use Rattle.mpeg_parameter.specs.declared.Parameters.{Parameters}
use Rattle.plate.specs.declared.Refusal.{Refusal}
use Rattle.plate.specs.declared.Fault.{Fault}
use Rattle.plate.specs.declared.Fault.TheVariants as fault

-- the first fault, if any, and the fourteen slots as the lines up to there leave them
pub record Judged : Type 0 where
  pub verdict : Result ⊤ Refusal
  pub slots : List (Option ℕ)

abbrev pub fine : List (Option ℕ) → Judged
fine slots = record { verdict = Ok tt; slots = slots }

abbrev pub bad : Fault → ℕ → List (Option ℕ) → Judged
bad f p slots = record { verdict = Err (refusal f p); slots = slots }

-- a known identifier's line: a value of another form is 26, then a parameter that a line gave before is 10
abbrev pub noted : List (Option ℕ) → ℕ → ℕ → Option ℕ → Judged
noted slots p k None = bad fault.AuxiliaryLine p slots
noted slots p k (Some n) = pick (is_some (get_or slots k None)) (bad fault.Twice p slots) (fine (set slots k (Some n)))

-- the line at p for a row: an unknown identifier is passed over
unfoldable pub taken : List (Option ℕ) → ℕ → Option ℕ → List ℕ → Judged
taken slots p None v = fine slots
taken slots p (Some k) v = noted slots p k (amount_of (row_at k) v)

-- on from what a line came to
abbrev pub on_from : (List (Option ℕ) → Judged) → List (Option ℕ) → Result ⊤ Refusal → Judged
on_from go_on slots (Ok tt) = go_on slots
on_from go_on slots (Err r) = record { verdict = Err r; slots = slots }

unfoldable pub judge_lines : List (Option ℕ) → Lines → Judged
judge_lines slots done = fine slots
judge_lines slots (malformed p) = bad fault.AuxiliaryLine p slots
judge_lines slots (line p row v rest) = on_from (λ next. judge_lines next rest) (taken slots p row v).slots (taken slots p row v).verdict

-- at the end 27, or every parameter
unfoldable pub parameters_answer : List (Option ℕ) → Result Parameters Refusal
parameters_answer slots = pick (lacking slots 14) (Err (refusal fault.NotGiven 0)) (Ok (parameters_of slots))

abbrev pub ended : List (Option ℕ) → Result ⊤ Refusal → Result Parameters Refusal
ended slots (Ok tt) = parameters_answer slots
ended slots (Err r) = Err r

abbrev pub read : Judged → Result Parameters Refusal
read j = ended j.slots j.verdict

-- the text rule first; the closing 00 is no part of the lines
unfoldable pub read_of : List ℕ → Result Parameters Refusal
read_of v = pick (text_ok v) (read (judge_lines (replicate 14 None) (lines_at (take (length v - 1) v) 0))) (Err (refusal fault.Text 0))

-- of an answer `ar` alone, or the refusal
unfoldable pub ratio_of : Result Parameters Refusal → Result ParameterValue Refusal
ratio_of (Ok x) = Ok x.ar
ratio_of (Err r) = Err r
