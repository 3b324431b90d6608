-- What a table that was taken tells: no step of 0, at most 1,000 entries, and all of them within the packet.
use Prim.Native.Nat.{ℕ, ◌+◌, ◌-◌, ◌*◌, ◌≤◌, ◌<◌}
use mathlib.Core.Path.{◌≡◌, refl}
use mathlib.Core.Bool.{Bool, true, false}
use mathlib.Core.List.{List}
use native.Mathlib.Omega.{arith}
use borrow.Author.Tests.{ltb-false, eqb-false}
use lib.ListN.{length}
use lib.Dec.{ltb, eqb}
use Rattle.std.specs.Prelude.{Result, Ok}
use Rattle.plate.specs.Choice.{pick}
use Rattle.number.specs.Number.{le}
use Rattle.locator.specs.Locator.{table_of, no_table}
use Rattle.locator.specs.declared.Locator.{Locator}
use Rattle.plate.specs.declared.Fault.{Fault}
use Rattle.plate.specs.declared.Refusal.{Refusal}

pub record Good (p : List ℕ) (t : Locator) : Type 0 where
  pub steps : 0 < t.step
  pub few : t.count ≤ 1000
  pub within : 24 + 4 * t.count ≤ length p

-- a choice that is a table, where its first branch is a refusal, came by the second
else_table : (b : Bool) (f : Fault) (y : Result Locator Refusal) (t : Locator) → pick b (no_table f) y ≡ Ok t → (b ≡ false) × (y ≡ Ok t)
else_table true f y t e = let z : ◌≡◌ {A = ℕ} 0 1 = cc in absurd (omega arith)
else_table false f y t e = (refl, e)

pub taken : (p : List ℕ) (t : Locator) → table_of p ≡ Ok t → Good p t
unfolding table_of
taken p t e =
    let a = else_table (ltb (length p - 16) 8) _ _ _ e in
    let b = else_table (ltb 1000 (le p 20 4)) _ _ _ a.1 in
    let d = else_table (eqb (le p 16 4) 0) _ _ _ b.1 in
    let f = else_table (ltb (length p - 16) (8 + 4 * le p 20 4)) _ _ _ d.1 in
    let u : t.step ≡ le p 16 4 = cc in
    let v : t.count ≡ le p 20 4 = cc in
    record { steps = omega (arith, eqb-false); few = omega (arith, ltb-false); within = omega (arith, ltb-false) }
