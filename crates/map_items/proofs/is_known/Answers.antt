use Rattle.map_items.specs.Judge.{is_known}
use Rattle.map_items.proofs.is_known.Goals as goal

pub returns-in-Text : goal.returns-in-Text
unfolding is_known
returns-in-Text c = simp c.in-Text.is

pub returns-in-Sized : goal.returns-in-Sized
unfolding is_known
returns-in-Sized c = simp c.in-Sized.is

pub returns-in-Unknown : goal.returns-in-Unknown
unfolding is_known
returns-in-Unknown c = simp c.in-Unknown.is
