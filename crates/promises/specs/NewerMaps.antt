-- Demand 3: what the reader doesn't know in a map changes nothing. Struck or set in, the map stays accepted and answers alike. Proved in proofs/NewerMaps.antt.
-- The pages themselves are those of map_newer: `Demand`, the theorems of the definitions; `Functions` and `Names`, the same through the contracts of the functions that read maps, records and names.
use Rattle.map_newer.specs.Demand.{Demand}
use Rattle.map_newer.specs.Functions.{Functions}
use Rattle.map_newer.specs.Names.{Names}

pub record NewerMaps : Type 0 where
  pub demand : Demand
  pub functions : Functions
  pub names : Names
