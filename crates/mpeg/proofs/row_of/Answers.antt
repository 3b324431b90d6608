use mathlib.Core.Path.{sym}
use Rattle.mpeg_parameter.specs.Table.{row_of}
use Rattle.mpeg_parameter.proofs.Rows.{long}
use Rattle.mpeg.proofs.row_of.Goals as goal

pub returns-then-v-gt5 : goal.returns-then-v-gt5
returns-then-v-gt5 c = long _ c.requires c.if-v-gt5.true

pub returns : goal.returns
unfolding row_of
returns c = simp (sym c.be_at.ensures, c.row_for.ensures)
