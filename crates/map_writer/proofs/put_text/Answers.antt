use mathlib.Core.Path.{refl}
use Rattle.map_writer.proofs.Puts.{text_run}
use Rattle.map_writer.proofs.put_text.Goals as goal

pub returns : goal.returns
returns c = let a = c.args in rw c.put_part.ensures (text_run a.out.now a.part.now a.pos a.tag _ _ refl)
