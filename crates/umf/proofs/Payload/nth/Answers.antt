use mathlib.Core.Path.{◌∙◌}
use native.Mathlib.Nat.{add-sub_cancel_left}
use Rattle.umf.specs.Umf.{nth_of, parts_of}
use Rattle.umf.proofs.Payload.nth.Goals as goal

pub returns : goal.returns
unfolding nth_of parts_of
returns c = let s = c.section-section.ensures in c.nth_part.ensures ∙ rw (c.count.ensures, add-sub_cancel_left, s.0, s.2)
