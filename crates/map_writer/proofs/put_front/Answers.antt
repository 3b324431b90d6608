use mathlib.Core.Path.{◌∙◌}
use Rattle.map_writer.proofs.Packet.{first_run}
use Rattle.map_writer.proofs.put_front.Goals as goal

pub returns : goal.returns
returns c = c.put_two.ensures ∙ rw c.put_header.ensures (first_run _ _)
