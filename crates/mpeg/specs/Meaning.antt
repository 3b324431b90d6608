-- What the parameters of an accepted text mean, by the numbers that its lines give (01, "MPEG auxiliary text"). Proved in proofs/Meaning.antt.
use Rattle.std.specs.Prelude.{ℕ, ◌-◌, ◌≡◌, List, length, take, eqb, Bool, false, Option, Some, None}
use Rattle.plate.specs.Choice.{pick, within}
use Rattle.mpeg_parameter.specs.Table.{row_at, least, most}
use Rattle.mpeg_parameter.specs.Parameters.{amount_of}
use Rattle.mpeg_parameter.specs.Meaning.{number, float, meaning_of, bits_of}
use Rattle.mpeg_parameter.specs.declared.ParameterValue.{ParameterValue}
use Rattle.mpeg_parameter.specs.declared.Parameters.{Parameters}
use Rattle.mpeg.specs.Lines.{Lines, done, malformed, line, lines_at}

-- the number that a parameter is given, if it is given one
pub data Number : Type 0 where
  none : Number
  is : ℕ → Number

-- a value outside the list of row k counts as not given
abbrev pub listed : ℕ → Option ℕ → Number
listed k None = none
listed k (Some n) = pick (within (least (row_at k)) (most (row_at k)) n) (is n) none

-- whether a line's row is row k
abbrev pub is_row : ℕ → Option ℕ → Bool
is_row k None = false
is_row k (Some j) = eqb j k

-- by the first line of row k; an accepted text has no second
unfoldable pub given_by : ℕ → Lines → Number
given_by k done = none
given_by k (malformed p) = none
given_by k (line p row v rest) = pick (is_row k row) (listed k (amount_of (row_at k) v)) (given_by k rest)

-- the closing 00 is no part of the lines
unfoldable pub given_in : List ℕ → ℕ → Number
given_in v k = given_by k (lines_at (take (length v - 1) v) 0)

-- not given means 0
abbrev pub or_zero : Number → ℕ
or_zero none = 0
or_zero (is n) = n

-- the text v gives row k a whole number, which x means
abbrev pub IsWhole : List ℕ → ℕ → ParameterValue → Type 0
IsWhole v k x = (n : ℕ) × (given_in v k ≡ is n) × (meaning_of x ≡ number n)

-- it gives N, in millionths, and x means the float with the bits of N divided by 1,000,000
abbrev pub IsRate : List ℕ → ℕ → ParameterValue → Type 0
IsRate v k x = (n : ℕ) × (given_in v k ≡ is n) × (meaning_of x ≡ float (bits_of n))

-- it may give none, and x then means 0
abbrev pub IsOptional : List ℕ → ℕ → ParameterValue → Type 0
IsOptional v k x = meaning_of x ≡ number (or_zero (given_in v k))

-- every parameter, in the table's order
pub record Means (v : List ℕ) (x : Parameters) : Type 0 where
  pub ver : IsWhole v 0 x.ver
  pub br : IsRate v 1 x.br
  pub ipg : IsWhole v 2 x.ipg
  pub ppi : IsWhole v 3 x.ppi
  pub bpiop : IsWhole v 4 x.bpiop
  pub pix : IsWhole v 5 x.pix
  pub cf : IsWhole v 6 x.cf
  pub cg : IsWhole v 7 x.cg
  pub sl : IsWhole v 8 x.sl
  pub nl16 : IsWhole v 9 x.nl16
  pub vi : IsWhole v 10 x.vi
  pub f1 : IsWhole v 11 x.f1
  pub cbpg : IsOptional v 12 x.cbpg
  pub ar : IsOptional v 13 x.ar
