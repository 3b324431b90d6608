use Rattle.std.proofs.Common.{rules, tests, ◌==◌}
use mathlib.Core.Path.{◌∙◌}
use Rattle.std.proofs.lemmas.Iterator.{YieldsList-from_slice}
use Rattle.std.proofs.lemmas.Iterator.Search.{position_from_yields_List}
use Rattle.mpeg_parameter.specs.Table.{table, name}
use Rattle.mpeg_parameter.specs.declared.Row.{Row}
use Rattle.mpeg_parameter.proofs.Rows.{first_of}
use Rattle.mpeg_parameter.proofs.row_for.Goals as goal

pub returns : goal.returns
unfolding table
returns c =
    position_from_yields_List (λ (r : Row). name r == c.args.name) _ _ _ c.position.ensures.ran (YieldsList-from_slice table (search rules)) (λ x b q k. search (rules, tests))
    ∙ first_of c.args.name
