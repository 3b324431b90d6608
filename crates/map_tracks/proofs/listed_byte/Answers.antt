use native.Mathlib.Omega.{arith}
use mathlib.Core.Path.{◌∙◌}
use Rattle.map_tracks.specs.Tracks.{byte_of}
use Rattle.map_tracks.proofs.listed_byte.Goals as goal

pub type_with-requires : goal.type_with-requires
type_with-requires c = omega (arith, c.bare.ensures)

pub returns : goal.returns
unfolding byte_of
returns c = c.type_with.ensures ∙ rw (c.is_progressive.ensures, c.code_at-fields.ensures, c.bare.ensures)
