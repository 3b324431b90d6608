-- What the functions inside the reader promise of each other, over the judge of Read.
use Rattle.std.specs.Prelude.{ℕ, ◌<◌, ◌≤◌, ◌≡◌, List, length, Option, Some, None, Result, Ok, Err, ⊤}
use Rattle.plate.specs.Choice.{pick}
use Rattle.plate.specs.Plate.{refusal}
use Rattle.plate.specs.declared.Fault.TheVariants.{NotGiven}
use Rattle.mpeg_parameter.specs.Parameters.{lacking}
use Rattle.mpeg.specs.Lines.{lines_at}
use Rattle.mpeg.specs.Read.{Judged, judge_lines}
use Rattle.plate.specs.declared.Refusal.{Refusal}

-- a row is one of the table's, if it is known
abbrev pub Known : Option ℕ → Type 0
Known None = ⊤
Known (Some k) = k < 14

-- what a function gives and leaves is what was judged
abbrev pub Agrees : Judged → Result ⊤ Refusal → List (Option ℕ) → Type 0
Agrees j verdict slots = (verdict ≡ j.verdict) × (slots ≡ j.slots)

-- a place from which on the lines are judged as from another: none between them counts
abbrev pub Skipped : List ℕ → ℕ → ℕ → Type 0
Skipped s from at = (from ≤ at) × (at ≤ length s) × ((slots : List (Option ℕ)) → judge_lines slots (lines_at s from) ≡ judge_lines slots (lines_at s at))

-- 27 where a parameter is lacking
unfoldable pub completed : List (Option ℕ) → Result ⊤ Refusal
completed slots = pick (lacking slots 14) (Err (refusal NotGiven 0)) (Ok tt)
