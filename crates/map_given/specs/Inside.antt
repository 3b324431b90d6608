-- What serves the code alone: the IDs seen, as flags.
use Rattle.std.specs.Prelude.{ℕ, List, Bool, false, get_or, ltb, Option, Some, None}
use Rattle.plate.specs.Choice.{pick}
use Rattle.plate.specs.declared.Fault.{Fault}
use Rattle.plate.specs.declared.Fault.TheVariants as fault

-- the fault of one more ID
unfoldable pub flag_fault : List Bool → ℕ → Option Fault
flag_fault flags id = pick (ltb 63 id) (Some fault.Barred) (pick (get_or flags id false) (Some fault.Twice) None)
