-- What serves the code alone: what one pass collects.
use Rattle.std.specs.Prelude.{ℕ, List, Option, Some, None, Result, Ok, Err}
use Rattle.plate.specs.Choice.{pick}
use Rattle.piece.specs.declared.Piece.{Piece}
use Rattle.plate.specs.declared.Refusal.{Refusal}
use Rattle.stream.specs.declared.Pass.{Pass}
use Rattle.stream.specs.Stream.{packets, check_of, carries_piece, first_of}

-- what one pass collects: the check's answer, and with it the first carrier
abbrev pub or_first : Option ℕ → Option ℕ → Option ℕ
or_first (Some o) later = Some o
or_first None later = later

abbrev pub first_here : ℕ → ℕ → ℕ → Piece → ℕ → Option ℕ
first_here track field byte x at = pick (carries_piece track field byte x) (Some at) None

abbrev pub collect : Result ℕ Refusal → Option ℕ → Result Pass Refusal
collect (Ok n) first = Ok (record { count = n; first = first })
collect (Err r) first = Err r

unfoldable pub run_of : List ℕ → ℕ → ℕ → Result Pass Refusal
run_of s track field = collect (check_of s) (first_of track field (packets s).list)
