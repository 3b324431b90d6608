-- What the header is refused with, the reader of records is refused with, and its 5 is the header's.
use Prim.Native.Nat.{ℕ}
use mathlib.Core.Path.{◌≡◌, refl, ◌∙◌, sym, ap, subst}
use mathlib.Core.Bool.{Bool, true, false}
use mathlib.Core.List.{List}
use native.Mathlib.Omega.{arith}
use lib.ListN.{length}
use lib.Dec.{ltb}
use Rattle.std.specs.Prelude.{Result, Ok, Err}
use Rattle.plate.specs.Choice.{pick}
use Rattle.plate.specs.Plate.{refusal}
use Rattle.plate.specs.declared.Refusal.{Refusal}
use Rattle.plate.proofs.Numbers.{Among, other}
use Rattle.packet.specs.Packet.{header_at}
use Rattle.packet.specs.Lacking.{PassedOn}
use Rattle.map_answer.specs.declared.Track.{Track}
use Rattle.map.specs.Map.{map_at}
use Rattle.map.specs.declared.MapSays.{MapSays}
use Rattle.plate.specs.declared.Fault.TheVariants as fault
use Rattle.map.proofs.Numbers.{map_passes, map_passed}
use Rattle.map_records.specs.Fill.{with_room, answer_for, Filled}
use Rattle.map_records.proofs.Kept.{others_first}

module _ (ys : List Track) (s : List ℕ) (at : ℕ) (zs : List Track) (r : Refusal) where
  pub fill_passes : header_at s at ≡ Err r → (x : Result MapSays Refusal) → Filled ys s at x zs → x ≡ Err r
  unfolding Filled
  fill_passes e x f = f.0 ∙ others_first s at (length ys) r (map_passes s at r e)

  pub fill_passed : Filled ys s at (Err r) zs → PassedOn s at r
  unfolding Filled answer_for
  fill_passed f = go (map_at s at) refl (sym f.0)
    where
      roomy : (m : MapSays) (b : Bool) → pick b (Err (refusal fault.Room 0)) (Ok m) ≡ Err r → PassedOn s at r
      roomy m true e = let k : Among 13 13 r = subst (Among 13 13) (let z : refusal fault.Room 0 ≡ r = cc in z) (omega arith, omega arith, λ n. refl) in record { same = other r k (omega arith); none = k.2 }
      roomy m false e = absurd (let z : ◌≡◌ {A = ℕ} 0 1 = cc in omega arith)

      go : (a : Result MapSays Refusal) → map_at s at ≡ a → with_room (length ys) a ≡ Err r → PassedOn s at r
      go (Err q) h e = map_passed s at r (h ∙ ap Err cc)
      go (Ok m) h e = roomy m (ltb (length ys) m.count) e
