use Rattle.plate.proofs.Tests.{tests}
use Rattle.map.specs.Map.{after_material}
use Rattle.map.proofs.after_material.Goals as goal

pub returns-then-left-lt2 : goal.returns-then-left-lt2
unfolding after_material
returns-then-left-lt2 c = search tests

pub returns-then-left-n : goal.returns-then-left-n
unfolding after_material
returns-then-left-n c = search (tests, ← c.be_at-n.ensures)

pub returns : goal.returns
unfolding after_material
returns c = search (tests, ← c.be_at-n.ensures)
