-- What a parameter is, by its row and by what its line gave (RDD 14, clause 7.1.3.1 and Table 7; 01, "MPEG auxiliary text").
-- What a line gave, if one did, is a slot.
use Rattle.std.specs.Prelude.{ℕ, zero, suc, Bool, true, false, List, get_or, pos, Float, Option, Some, None}
use Rattle.std.specs.Float.Ieee as Ieee
use Rattle.std.specs.Float.{binary64}
use Rattle.plate.specs.Choice.{pick, within}
use Rattle.mpeg_decimal.specs.Decimal.{whole_of, rate_of}
use Rattle.mpeg_parameter.specs.Table.{row_at, required, rate, least, most}
use Rattle.mpeg_parameter.specs.declared.Row.{Row}
use Rattle.mpeg_parameter.specs.declared.ParameterValue.{ParameterValue}
use Rattle.mpeg_parameter.specs.declared.ParameterValue.TheVariants.{Whole, Rate}
use Rattle.mpeg_parameter.specs.declared.Parameters.{Parameters}

-- a value's number: in millionths where the row is a rate
unfoldable pub amount_of : Row → List ℕ → Option ℕ
amount_of r v = pick (rate r) (rate_of v) (whole_of v)

-- a value outside the row's list counts as not given
unfoldable pub given : Row → Option ℕ → Bool
given r None = false
given r (Some n) = within (least r) (most r) n

-- not given means 0
unfoldable pub number_of : Row → Option ℕ → ℕ
number_of r None = 0
number_of r (Some n) = pick (given r (Some n)) n 0

-- N divided by 1,000,000: N and the divisor are exact, and the quotient is rounded once
unfoldable pub millionths : ℕ → Float
millionths n = Ieee.div binary64 (Ieee.of_int binary64 (pos n)) (Ieee.of_int binary64 (pos 1000000))

unfoldable pub value_of_row : Row → Option ℕ → ParameterValue
value_of_row r slot = pick (rate r) (Rate (millionths (number_of r slot))) (Whole (number_of r slot))

-- required and not given
unfoldable pub wanting : Row → Option ℕ → Bool
wanting r slot = pick (required r) (pick (given r slot) false true) false

-- whether one of the first n rows is required and not given
unfoldable pub lacking : List (Option ℕ) → ℕ → Bool
lacking slots zero = false
lacking slots (suc n) = pick (wanting (row_at n) (get_or slots n None)) true (lacking slots n)

abbrev pub value_at : List (Option ℕ) → ℕ → ParameterValue
value_at slots k = value_of_row (row_at k) (get_or slots k None)

-- in the table's order
unfoldable pub parameters_of : List (Option ℕ) → Parameters
parameters_of slots =
    record {
      ver = value_at slots 0;
      br = value_at slots 1;
      ipg = value_at slots 2;
      ppi = value_at slots 3;
      bpiop = value_at slots 4;
      pix = value_at slots 5;
      cf = value_at slots 6;
      cg = value_at slots 7;
      sl = value_at slots 8;
      nl16 = value_at slots 9;
      vi = value_at slots 10;
      f1 = value_at slots 11;
      cbpg = value_at slots 12;
      ar = value_at slots 13;
    }
