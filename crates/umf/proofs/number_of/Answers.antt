use mathlib.Core.Path.{◌∙◌, ap}
use native.Mathlib.Nat.{add-sub_cancel_left}
use Rattle.umf.specs.Umf.{parts_of}
use Rattle.umf.specs.declared.Walked.{Walked}
use Rattle.umf.proofs.number_of.Goals as goal

pub returns : goal.returns
unfolding parts_of
returns c = let s = c.section-section.ensures in ap (λ (v : Walked). v.number) c.walk.ensures ∙ rw (c.count.ensures, add-sub_cancel_left, s.0, s.2)
