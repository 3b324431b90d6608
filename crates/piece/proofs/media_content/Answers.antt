use native.Mathlib.Omega.{arith}
use mathlib.Core.Path.{sym, ◌∙◌}
use Rattle.piece.specs.Piece.{content_of}
use Rattle.piece.proofs.Laws.{media_place}
use Rattle.piece.proofs.media_content.Goals as goal

pub refused_at-requires : goal.refused_at-requires
refused_at-requires c = let a = c.args in let w = media_place a.p.now _ (sym c.preamble.ensures ∙ c.in-Err.is) in omega arith

pub returns-in-Err : goal.returns-in-Err
unfolding content_of
returns-in-Err c = rw (sym c.preamble.ensures ∙ c.in-Err.is) c.refused_at.ensures

pub returns-in-Ok : goal.returns-in-Ok
unfolding content_of
returns-in-Ok c = rw (sym c.preamble.ensures ∙ c.in-Ok.is)
