use Rattle.plate.proofs.Tests.{tests}
use Rattle.map_items.specs.Judge.{has}
use Rattle.segment.specs.Segment.{specification_of}
use Rattle.segment.proofs.Description.specification.Goals as goal

pub returns-in-4 : goal.returns-in-4
unfolding specification_of has
returns-in-4 c = search (tests, c.mpeg.ensures)

pub returns-in-3 : goal.returns-in-3
unfolding specification_of has
returns-in-3 c = search (tests, c.listed-drop.ensures, c.word.ensures)

pub returns-in-2 : goal.returns-in-2
unfolding specification_of has
returns-in-2 c = search (tests, c.audio.ensures)

pub returns-in-5 : goal.returns-in-5
unfolding specification_of has
returns-in-5 c = search (tests, c.attributes-kind-in-5.ensures, c.word-in-5.ensures)

pub returns-in-11 : goal.returns-in-11
unfolding specification_of has
returns-in-11 c = search (tests, c.attributes-kind.ensures, c.word-in-11.ensures)

pub returns-in-1 : goal.returns-in-1
unfolding specification_of has
returns-in-1 c = search (tests, c.jpeg.ensures)

pub returns-in-8 : goal.returns-in-8
unfolding specification_of has
returns-in-8 c = search tests

pub returns-in_default : goal.returns-in_default
unfolding specification_of has
returns-in_default c = search tests

pub returns-in_default-2 : goal.returns-in_default-2
unfolding specification_of has
returns-in_default-2 c = search tests
