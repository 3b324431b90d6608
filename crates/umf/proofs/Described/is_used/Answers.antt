use mathlib.Core.Path.{◌≡◌, refl}
use mathlib.Core.Bool.{true}
use Rattle.umf.specs.declared.Described.{Described}
use Rattle.umf.specs.declared.Described.TheVariants.{Tracks, Segments, Users}
use Rattle.umf.specs.Split.{is_counted}
use Rattle.umf.proofs.Described.is_used.Goals as goal

others : (k : Described) → (k ≡ Users → ⊥) → is_counted k ≡ true
unfolding is_counted
others Tracks h = refl
others Segments h = refl
others Users h = absurd (h refl)

pub returns-in-Users : goal.returns-in-Users
unfolding is_counted
returns-in-Users c = simp c.in-Users.is

pub returns-in_default : goal.returns-in_default
returns-in_default c = rw (others _ c.in_default.not-Users)
