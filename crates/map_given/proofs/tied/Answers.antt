use mathlib.Core.Path.{refl}
use Rattle.map_given.specs.Given.{slots}
use Rattle.map_given.specs.Places.{numbered, place_in, material_places, track_places}
use Rattle.map_given.proofs.tied.Goals as goal

pub returns : goal.returns
unfolding material_places track_places place_in numbered slots
returns c = (refl, refl)
