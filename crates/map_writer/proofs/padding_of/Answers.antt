use mathlib.Core.Path.{refl}
use Rattle.map.specs.Encode.{padding}
use Rattle.map_writer.proofs.padding_of.Goals as goal

pub returns : goal.returns
unfolding padding
returns c = refl
