use native.Mathlib.Omega.{arith}
use mathlib.Core.Path.{◌∙◌}
use Rattle.media_type.proofs.Laws.{known_under}
use Rattle.book_builder.proofs.marked_type.Goals as goal

pub type_with-requires : goal.type_with-requires
type_with-requires c = omega (arith, known_under _ c.requires)

pub returns : goal.returns
returns c = c.type_with.ensures ∙ rw c.carries_two.ensures
