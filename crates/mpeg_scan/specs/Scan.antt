-- Runs: how many in front of a list are of one kind, and where such a run from a place on ends.
use Rattle.std.specs.Prelude.{ℕ, suc, ◌+◌, Bool, true, false, List, [], ◌∷◌, drop, eqb}
use Rattle.plate.specs.Choice.{pick, within}

unfoldable pub run : {A : Type 0} → (A → Bool) → List A → ℕ
run p [] = 0
run p (x ∷ s) = pick (p x) (suc (run p s)) 0

-- the place of the first that is of another kind, or the end
unfoldable pub run_end : {A : Type 0} → (A → Bool) → List A → ℕ → ℕ
run_end p s at = at + run p (drop at s)

-- letters and digits of ASCII: 0 to 9, A to Z, a to z
unfoldable pub alnum : ℕ → Bool
alnum b = pick (within 0x30 0x39 b) true (pick (within 0x41 0x5A b) true (within 0x61 0x7A b))

-- any byte but one
unfoldable pub other : ℕ → ℕ → Bool
other stop b = pick (eqb b stop) false true
