use borrow.Author.Rules.{rules}
use native.Mathlib.Omega.{arith}
use native.Mathlib.Nat.{one-mul}
use Prim.Native.Nat.{ℕ, ◌-◌, ◌*◌, ◌/◌, ◌%◌, ◌^◌, ◌≤◌, ◌<◌}
use mathlib.Core.Path.{◌≡◌, refl, ◌∙◌}
use mathlib.Core.Bool.{Bool, true, false}
use lib.Bits.{bit_or}
use lib.Pow.{shl_exact}
use lib.Dec.{eqb}
use borrow.Author.Tests.{eqb-true, eqb-false, eq-eqb, ne_eqb}
use Rattle.plate.specs.Choice.{pick}
use Rattle.map_tracks.specs.Inside.{holds}
use Rattle.map_tracks.proofs.Bits.{bit_set}
use Rattle.map_tracks.proofs.with.Goals as goal

-- the bit of an ID byte: the shift loses nothing
bit-of : (id : ℕ) → id < 256 → 1 * 2 ^ (id - 0xC0) % 2 ^ 64 ≡ 2 ^ (id - 0xC0)
bit-of id h = shl_exact 1 (id - 0xC0) 64 (omega arith) (omega arith) ∙ one-mul (2 ^ (id - 0xC0))

-- once it is set, an ID byte is in the set if it is this one or was there
added : (n id k : ℕ) → 0xC0 ≤ id → id < 256 → 0xC0 ≤ k
    → eqb (bit_or n (1 * 2 ^ (id - 0xC0) % 2 ^ 64) / 2 ^ (k - 0xC0) % 2) 1 ≡ pick (eqb k id) true (eqb (n / 2 ^ (k - 0xC0) % 2) 1)
added n id k a h b = rw (bit-of id h, bit_set n (k - 0xC0) (id - 0xC0)) (go (eqb k id) refl)
  where
    go : (t : Bool) → eqb k id ≡ t → eqb (pick (eqb (k - 0xC0) (id - 0xC0)) 1 (n / 2 ^ (k - 0xC0) % 2)) 1 ≡ pick t true (eqb (n / 2 ^ (k - 0xC0) % 2) 1)
    go true q = let e = eqb-true k id q in rw (eq-eqb (k - 0xC0) (id - 0xC0) (omega arith))
    go false q = let e = eqb-false k id q in rw (ne_eqb (k - 0xC0) (id - 0xC0) (λ j. e (omega arith)))

pub returns : goal.returns
unfolding holds
returns c k a b = let h : c.args.id < 256 = search rules in
    rw c.wide-k.ensures (added c.args.seen.ids c.args.id k c.requires h a)
