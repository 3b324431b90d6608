use Rattle.plate.proofs.Tests.{tests}
use Rattle.map.specs.Map.{layout_of}
use Rattle.map.proofs.layout_of.Goals as goal

pub returns-then-p-lt20 : goal.returns-then-p-lt20
unfolding layout_of
returns-then-p-lt20 c = search tests

pub returns-then-p-n : goal.returns-then-p-n
unfolding layout_of
returns-then-p-n c = search (tests, ← c.be_at-n.ensures)

pub returns : goal.returns
unfolding layout_of
returns c = search (tests, ← c.be_at-n.ensures, c.after_material.ensures)
