use mathlib.Core.Path.{sym, ap}
use lib.Seq.{sets}
use Rattle.map_writer.proofs.Puts.{absent_bytes}
use Rattle.map_given.proofs.Clean.{present_fits}
use Rattle.map_writer.proofs.put_slot.Goals as goal

pub put_item-requires : goal.put_item-requires
put_item-requires c = (c.requires.0, c.if-s-eq-PRESENT.true, present_fits _ _ c.if-s-eq-PRESENT.true c.requires.1)

pub returns-else-s-eq-PRESENT : goal.returns-else-s-eq-PRESENT
returns-else-s-eq-PRESENT c = let a = c.args in ap (sets a.out.now a.pos) (sym (absent_bytes a.text.now a.s c.if-s-eq-PRESENT.false))
