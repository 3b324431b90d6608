-- Worked examples: the bits of some rates, and a whole text.
use Prim.Native.Nat.{ℕ, ◌^◌}
use mathlib.Core.Path.{◌≡◌, refl}
use mathlib.Core.List.{List, [], ◌∷◌, map}
use lib.Ieee as Ieee
use Rattle.std.specs.Prelude.{Ok}
use Rattle.number.specs.Number.{be}
use Rattle.text.specs.Text.{text_ok}
use Rattle.mpeg_scan.specs.Scan.{run, run_end, alnum, other}
use Rattle.mpeg_decimal.specs.Decimal.{digits, numeral_of, fraction_of, whole_of, rate_of}
use Rattle.mpeg_parameter.specs.Table.{table, row_at, other_row, row_for, row_of}
use Rattle.mpeg_parameter.specs.Parameters.{amount_of, given, wanting, number_of, millionths, value_of_row, lacking, parameters_of}
use Rattle.mpeg_parameter.specs.Meaning.{bits_of}
use Rattle.mpeg.specs.Lines.{label_at, lines_from, lines_at}
use Rattle.mpeg.specs.Read.{taken, judge_lines, parameters_answer, read_of}
use Rattle.mpeg_parameter.specs.declared.ParameterValue.TheVariants.{Whole, Rate}

-- 0.5; 9007199254.740992, the largest; 0; 0.000001; 50000000; 0.123456
pub bits : map bits_of (500000 ∷ 2 ^ 53 ∷ 0 ∷ 1 ∷ 50000000000000 ∷ 123456 ∷ [])
    ≡ 0x3FE0000000000000 ∷ 0x4200C6F7A0B5ED8D ∷ 0 ∷ 0x3EB0C6F7A0B5ED8D ∷ 0x4187D78400000000 ∷ 0x3FBF9ACFFA7EB6BF ∷ []
unfolding bits_of millionths Ieee.to_bits Ieee.div Ieee.of_int Ieee.round
bits = refl

-- every parameter that must be given, and a line that is passed over
abbrev pub text : List ℕ
text =
    0x56 ∷ 0x65 ∷ 0x72 ∷ 0x20 ∷ 0x31 ∷ 0x0A
    ∷ 0x42 ∷ 0x72 ∷ 0x20 ∷ 0x30 ∷ 0x2E ∷ 0x35 ∷ 0x0A
    ∷ 0x49 ∷ 0x70 ∷ 0x67 ∷ 0x20 ∷ 0x31 ∷ 0x0A
    ∷ 0x50 ∷ 0x70 ∷ 0x69 ∷ 0x20 ∷ 0x34 ∷ 0x0A
    ∷ 0x42 ∷ 0x70 ∷ 0x69 ∷ 0x6F ∷ 0x70 ∷ 0x20 ∷ 0x32 ∷ 0x0A
    ∷ 0x50 ∷ 0x69 ∷ 0x78 ∷ 0x20 ∷ 0x30 ∷ 0x0A
    ∷ 0x43 ∷ 0x66 ∷ 0x20 ∷ 0x32 ∷ 0x0A
    ∷ 0x43 ∷ 0x67 ∷ 0x20 ∷ 0x31 ∷ 0x0A
    ∷ 0x53 ∷ 0x6C ∷ 0x20 ∷ 0x33 ∷ 0x31 ∷ 0x0A
    ∷ 0x6E ∷ 0x6C ∷ 0x31 ∷ 0x36 ∷ 0x20 ∷ 0x36 ∷ 0x38 ∷ 0x0A
    ∷ 0x56 ∷ 0x69 ∷ 0x20 ∷ 0x31 ∷ 0x0A
    ∷ 0x66 ∷ 0x31 ∷ 0x20 ∷ 0x31 ∷ 0x0A
    ∷ 0x7A ∷ 0x7A ∷ 0x20 ∷ 0x61 ∷ 0x6E ∷ 0x79 ∷ 0x0A
    ∷ 0x00 ∷ []

pub whole_text : read_of text
    ≡ Ok (record {
      ver = Whole 1;
      br = Rate (millionths 500000);
      ipg = Whole 1;
      ppi = Whole 4;
      bpiop = Whole 2;
      pix = Whole 0;
      cf = Whole 2;
      cg = Whole 1;
      sl = Whole 31;
      nl16 = Whole 68;
      vi = Whole 1;
      f1 = Whole 1;
      cbpg = Whole 0;
      ar = Whole 0;
    })
unfolding read_of text_ok judge_lines taken parameters_answer lines_at lines_from label_at lacking parameters_of value_of_row number_of given wanting amount_of table row_at other_row row_for row_of rate_of whole_of numeral_of fraction_of digits run run_end alnum other be
whole_text = refl
