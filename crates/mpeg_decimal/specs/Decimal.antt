-- Numbers written in decimal digits (RDD 14, clause 7.1.3.1; 01, "MPEG auxiliary text").
use Rattle.std.specs.Prelude.{ℕ, ◌+◌, ◌-◌, ◌*◌, ◌^◌, List, [], ◌∷◌, length, take, drop, ltb, leb, Option, Some, None}
use Rattle.plate.specs.Choice.{pick, within}
use Rattle.mpeg_scan.specs.Scan.{run_end, other}

-- the number that bytes are, read after n: digits, and nothing else
unfoldable pub digits : ℕ → List ℕ → Option ℕ
digits n [] = Some n
digits n (b ∷ v) = pick (within 0x30 0x39 b) (digits (n * 10 + (b - 0x30)) v) None

-- one digit or more, up to so many; zeros may lead
unfoldable pub numeral_of : ℕ → List ℕ → Option ℕ
numeral_of most v = pick (ltb 0 (length v)) (pick (leb (length v) most) (digits 0 v) None) None

-- a whole number: 1 to 9 digits
unfoldable pub whole_of : List ℕ → Option ℕ
whole_of v = numeral_of 9 v

-- an amount times a number
abbrev pub times : ℕ → Option ℕ → Option ℕ
times k (Some n) = Some (n * k)
times k None = None

-- a point and 1 to 6 digits, or nothing, in millionths
unfoldable pub fraction_of : List ℕ → Option ℕ
fraction_of [] = Some 0
fraction_of (point ∷ v) = times (10 ^ (6 - length v)) (numeral_of 6 v)

-- a sum of millionths, 2^53 at most
abbrev pub plus : Option ℕ → Option ℕ → Option ℕ
plus (Some n) (Some m) = pick (leb (n + m) (2 ^ 53)) (Some (n + m)) None
plus (Some n) None = None
plus None b = None

-- the place of the point, or the end
abbrev pub point_in : List ℕ → ℕ
point_in v = run_end (other 0x2E) v 0

-- a rate (house rule of 01): 1 to 10 digits, then optionally a point and 1 to 6 digits; in millionths, 2^53 at most
unfoldable pub rate_of : List ℕ → Option ℕ
rate_of v = plus (times 1000000 (numeral_of 10 (take (point_in v) v))) (fraction_of (drop (point_in v) v))
