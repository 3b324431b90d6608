use mathlib.Core.Path.{sym, ◌∙◌}
use Rattle.plate.proofs.Tests.{tests}
use Rattle.umf_answer.specs.Says.{owner_of}
use Rattle.umf_answer.proofs.owner_of.Goals as goal

pub returns-in-0 : goal.returns-in-0
unfolding owner_of
returns-in-0 c = search tests

pub returns-in_default : goal.returns-in_default
unfolding owner_of
returns-in_default c = search (tests, sym c.is_track.ensures ∙ c.if-is_track.true)

pub returns-in_default-2 : goal.returns-in_default-2
unfolding owner_of
returns-in_default-2 c = search (tests, sym c.is_track.ensures ∙ c.if-is_track.false)
