-- Any two outcomes that a contract of this crate allows are equal. Of `make` and `step` the contract is one definition, and the theorem is over that name.
use Prim.Native.Nat.{ℕ}
use mathlib.Core.Path.{◌≡◌, sym, ◌∙◌}
use mathlib.Core.List.{List}
use denote.Ref.{Bor}
use Rattle.std.specs.Prelude.{Result}
use Rattle.plate.proofs.Outcome.{OneAnswer}
use Rattle.walker.specs.Walk.{Made, Stepped}
use Rattle.walker.specs.declared.Walker.{Walker}
use Rattle.packet.specs.declared.Packet.{Packet}
use Rattle.plate.specs.declared.Refusal.{Refusal}
use Rattle.walker.proofs.walk.Kinds as walk-kinds
use Rattle.walker.proofs.walk.Reads as walk-reads

pub make_once : (s : Bor (List ℕ)) (at : ℕ) (v w : Walker) → Made s at v → Made s at w → v ≡ w
unfolding Made
make_once s at v w p q = p ∙ sym q

-- the answer, and the whole struct
pub step_once : (w : Walker) (r t : Result Packet Refusal) (u v : Walker) → Stepped w r u → Stepped w t v → (r ≡ t) × (u ≡ v)
unfolding Stepped
step_once w r t u v p q = (p.0 ∙ sym q.0, p.1 ∙ sym q.1)

pub walk_once : OneAnswer 1 walk-kinds.ps walk-kinds.r walk-reads.Post
walk_once κs a x y s t p q = p ∙ sym q
