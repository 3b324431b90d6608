-- Demand 3, from the theorems of map_newer.
use Rattle.map_newer.proofs.Demand.{demand}
use Rattle.map_newer.proofs.Functions.{functions}
use Rattle.map_newer.proofs.Names.{names}
use Rattle.promises.specs.NewerMaps.{NewerMaps}

pub newer_maps : NewerMaps
newer_maps = record { demand = demand; functions = functions; names = names }
