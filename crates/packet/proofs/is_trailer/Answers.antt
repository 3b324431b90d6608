use mathlib.Core.Path.{◌∙◌}
use Rattle.number.proofs.Laws.{be_two}
use Rattle.packet.proofs.is_trailer.Goals as goal

pub returns : goal.returns
returns c = rw (c.from_be_bytes.ensures ∙ be_two c.args.s.now c.args.at)
