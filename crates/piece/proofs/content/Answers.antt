use Rattle.plate.proofs.Tests.{tests}
use Rattle.piece.specs.Piece.{content_of}
use Rattle.piece.proofs.content.Goals as goal

pub returns-in_default : goal.returns-in_default
unfolding content_of
returns-in_default c = search (tests, c.plain.ensures)
