use mathlib.Core.Path.{◌∙◌}
use Rattle.locator_writer.proofs.Laws.{four_runs}
use Rattle.locator_writer.proofs.put_packet.Goals as goal

pub returns : goal.returns
returns c = c.put_entries.ensures ∙ rw (c.put_le-2.ensures, c.put_le.ensures, c.put_header.ensures) (four_runs _ _ _)
