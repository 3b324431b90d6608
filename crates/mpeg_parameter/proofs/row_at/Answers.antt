use mathlib.Core.Path.{refl, sym}
use Rattle.mpeg_parameter.specs.Table.{table, row_at}
use Rattle.mpeg_parameter.proofs.Rows.{row_past}
use Rattle.mpeg_parameter.proofs.row_at.Goals as goal

pub returns-then-k-lt14 : goal.returns-then-k-lt14
unfolding row_at table
returns-then-k-lt14 c = refl

pub returns-else-k-lt14 : goal.returns-else-k-lt14
returns-else-k-lt14 c = sym (row_past _ c.if-k-lt14.false)
