use Rattle.mpeg_decimal.specs.Decimal.{whole_of}
use Rattle.mpeg_decimal.proofs.whole.Goals as goal

pub returns : goal.returns
unfolding whole_of
returns c = c.numeral.ensures
