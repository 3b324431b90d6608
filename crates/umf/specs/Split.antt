-- A section of a UMF taken apart (RDD 14, 7.3.2.4 to 7.3.2.6, Tables 18 to 20; 02, §1): descriptions or records one behind the other, by lengths alone.
use Rattle.std.specs.Prelude.{ℕ, zero, suc, ◌+◌, Bool, true, false, List, [], ◌∷◌, length, take, drop, eqb}
use Rattle.plate.specs.Choice.{pick, within}
use Rattle.plate.specs.Ended.{Ended, none, in_front}
use Rattle.number.specs.Number.{le}
use Rattle.umf.specs.declared.Described.{Described}
use Rattle.umf.specs.declared.Described.TheVariants.{Tracks, Segments, Users}
use Rattle.umf.specs.declared.Step.{Step}
use Rattle.umf.specs.declared.Step.TheVariants.{More, Used, Over}

-- the bytes of the fixed fields: Table 18 has 4; Table 19 128, and the 32 that "shall contain" a specification; Table 20 16, and the length "shall include" the ending 00 and a reserved byte
unfoldable pub least_of : Described → ℕ
least_of Tracks = 4
least_of Segments = 160
least_of Users = 18

-- the length of what begins here: a track's is fixed, the others state theirs in the first field, UINT16 of Table 19, UINT32 of Table 20
unfoldable pub stated_of : Described → List ℕ → ℕ
stated_of Tracks s = 4
stated_of Segments s = le s 0 2
stated_of Users s = le s 0 4

-- tracks and segments are as many as Table 16 states; user records go on until their section is used up (7.3.2.6)
unfoldable pub is_counted : Described → Bool
is_counted Tracks = true
is_counted Segments = true
is_counted Users = false

-- what stands at the start of s, the rest of a section: one more of a length, neither under its fixed fields nor over what is left; nothing, and nothing has to; or one that is neither
unfoldable pub step_of : Described → List ℕ → Step
step_of k s =
    pick (pick (is_counted k) false (eqb (length s) 0)) Used
    (pick (within (least_of k) (length s) (stated_of k s)) (More (stated_of k s)) Over)

-- the bytes of each, and whether as many came as were asked for
abbrev pub Parts : Type 0
Parts = Ended (List ℕ) Bool

-- n of them at most, the first step being known
unfoldable pub walk : Described → Step → ℕ → List ℕ → Parts
walk k x zero s = none true
walk k Used (suc n) s = none true
walk k Over (suc n) s = none false
walk k (More m) (suc n) s = in_front (take m s) (walk k (step_of k (drop m s)) n (drop m s))

abbrev pub split_of : Described → ℕ → List ℕ → Parts
split_of k n s = walk k (step_of k s) n s

-- the bytes that some descriptions take together
unfoldable pub size_of : List (List ℕ) → ℕ
size_of [] = 0
size_of (d ∷ ds) = length d + size_of ds
