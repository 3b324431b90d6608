-- The parameters (RDD 14, Table 7; 01, "MPEG auxiliary text"): one row each.
use Rattle.std.specs.Prelude.{ℕ, ◌^◌, Bool, true, false, List, [], ◌∷◌, length, get_or, ltb, eqb, Option, Some, None}
use Rattle.plate.specs.Choice.{pick}
use Rattle.number.specs.Number.{be}
use Rattle.mpeg_scan.specs.Scan.{run}
use Rattle.mpeg_parameter.specs.declared.Row.{Row}

-- an identifier is given as the number that its bytes are, most significant first: no byte of an identifier is 0, so the number tells the bytes
abbrev pub name : Row → ℕ
name r = r.name

-- whether it must be given
abbrev pub required : Row → Bool
required r = r.required

-- whether it is a rate, in millionths, and no whole number
abbrev pub rate : Row → Bool
rate r = r.rate

-- the allowed values: from the first to the last
abbrev pub least : Row → ℕ
least r = r.least

abbrev pub most : Row → ℕ
most r = r.most

abbrev pub whole : ℕ → Bool → ℕ → ℕ → Row
whole id must first last = record { name = id; required = must; rate = false; least = first; most = last }

abbrev pub rated : ℕ → Row
rated id = record { name = id; required = true; rate = true; least = 0; most = 2 ^ 53 }

-- any whole number
abbrev pub any : ℕ → Row
any id = whole id true 0 999999999

unfoldable pub table : List Row
table =
    -- Ver
    whole 0x566572 true 1 1
    -- Br
    ∷ rated 0x4272
    -- Ipg
    ∷ any 0x497067
    -- Ppi
    ∷ any 0x507069
    -- Bpiop
    ∷ any 0x4270696F70
    -- Pix
    ∷ whole 0x506978 true 0 1
    -- Cf
    ∷ whole 0x4366 true 1 2
    -- Cg
    ∷ whole 0x4367 true 0 1
    -- Sl
    ∷ whole 0x536C true 1 31
    -- nl16
    ∷ any 0x6E6C3136
    -- Vi
    ∷ whole 0x5669 true 1 1
    -- f1
    ∷ whole 0x6631 true 0 1
    -- cbpg
    ∷ whole 0x63627067 false 0 1
    -- ar
    ∷ whole 0x6172 false 0 1
    ∷ []

unfoldable pub row_at : ℕ → Row
row_at k = get_or table k (whole 0 false 0 0)

-- a row of another identifier
unfoldable pub other_row : ℕ → Row → Bool
other_row id r = pick (eqb (name r) id) false true

-- the row of an identifier, if it is known
unfoldable pub row_for : ℕ → Option ℕ
row_for id = pick (ltb (run (other_row id) table) (length table)) (Some (run (other_row id) table)) None

unfoldable pub row_of : List ℕ → Option ℕ
row_of v = row_for (be v 0 (length v))
