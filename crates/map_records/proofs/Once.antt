-- Any two outcomes that the contract of `fill` allows are equal: the answer and all records. Its contract is one definition, and the theorem is over that name.
use Prim.Native.Nat.{ℕ}
use mathlib.Core.Path.{◌≡◌, sym, ◌∙◌}
use mathlib.Core.List.{List}
use Rattle.std.specs.Prelude.{Result}
use Rattle.map_answer.specs.declared.Track.{Track}
use Rattle.map.specs.declared.MapSays.{MapSays}
use Rattle.plate.specs.declared.Refusal.{Refusal}
use Rattle.map_records.specs.Fill.{Filled}

pub fill_once : (ys : List Track) (s : List ℕ) (at : ℕ) (r t : Result MapSays Refusal) (us vs : List Track) → Filled ys s at r us → Filled ys s at t vs → (r ≡ t) × (us ≡ vs)
unfolding Filled
fill_once ys s at r t us vs p q = (p.0 ∙ sym q.0, p.1 ∙ sym q.1)
