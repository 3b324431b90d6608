-- A text taken apart into lines (RDD 14, clause 7.1.3.1; 01, "MPEG auxiliary text"): an identifier, a space, a value up to 0A, and 0A.
use Rattle.std.specs.Prelude.{ℕ, zero, suc, ◌+◌, List, length, get_or, ltb, eqb, Option, Some, None}
use Rattle.plate.specs.Choice.{pick}
use Rattle.plate.specs.Part.{part}
use Rattle.mpeg_scan.specs.Scan.{run_end, alnum, other}
use Rattle.mpeg_parameter.specs.Table.{row_of}
use Rattle.mpeg.specs.declared.Label.{Label}

-- each line's place, the row of its identifier, if it is known, and its value's bytes, up to the end or to the place of a malformed line
pub data Lines : Type 0 where
  done : Lines
  malformed : ℕ → Lines
  line : ℕ → Option ℕ → List ℕ → Lines → Lines

-- the place after the identifier, or after the value, that begins at a place
abbrev pub name_end : List ℕ → ℕ → ℕ
name_end s at = run_end alnum s at

abbrev pub value_end : List ℕ → ℕ → ℕ
value_end s at = run_end (other 0x0A) s at

-- the identifier at a place, one byte at least, and the space after it: its row, and where its value begins
unfoldable pub label_at : List ℕ → ℕ → Option Label
label_at s at =
    pick (ltb at (name_end s at))
    (pick (eqb (get_or s (name_end s at) 0) 0x20) (Some (record { row = row_of (part at (name_end s at) s); value = name_end s at + 1 })) None)
    None

-- the value from a place on, in the line at p for a row; its 0A must be there
abbrev pub value_then : List ℕ → ℕ → Option ℕ → ℕ → (ℕ → Lines) → Lines
value_then s p row at rest =
    pick (ltb (value_end s at) (length s)) (line p row (part at (value_end s at) s) (rest (value_end s at + 1))) (malformed p)

abbrev pub label_then : List ℕ → ℕ → (ℕ → Lines) → Option Label → Lines
label_then s p rest (Some label) = value_then s p label.row label.value rest
label_then s p rest None = malformed p

-- the lines from a place on, f of them at most
unfoldable pub lines_from : ℕ → List ℕ → ℕ → Lines
lines_from zero s at = done
lines_from (suc f) s at = pick (ltb at (length s)) (label_then s at (lines_from f s) (label_at s at)) done

-- all of them: there are not more lines than bytes
unfoldable pub lines_at : List ℕ → ℕ → Lines
lines_at s at = lines_from (suc (length s)) s at
