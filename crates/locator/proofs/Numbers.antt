-- Which numbers the refusal of a locator table can have, and that of a position by it; bytes lack with 5 alone.
use Prim.Native.Nat.{ℕ, ◌+◌, ◌-◌, ◌*◌, ◌≤◌}
use mathlib.Core.Path.{◌≡◌, refl, subst}
use mathlib.Core.List.{List}
use mathlib.Core.Logic.{◌⊎◌, inl, inr}
use native.Mathlib.Omega.{arith}
use lib.ListN.{length, take, drop}
use lib.Dec.{ltb, eqb}
use Rattle.std.specs.Prelude.{Result, Ok, Err}
use Rattle.plate.specs.declared.Refusal.{Refusal}
use Rattle.locator.specs.declared.Locator.{Locator}
use Rattle.packet.specs.declared.Packet.{Packet}
use Rattle.plate.proofs.Numbers.{either, Among, wider}
use Rattle.number.specs.Number.{le}
use Rattle.packet.specs.Packet.{header_at, packet_at}
use Rattle.packet.specs.Lacking.{PassedOn}
use Rattle.packet.proofs.Numbers.{OfHeader, packet_numbers}
use Rattle.packet.proofs.Torn.{type_passes, passed_by}
use Rattle.locator.specs.Locator.{table_of, table_in, table_at, entry_for, by_table, position_of, position_in, position_at}

-- 8, or 14 or 15
abbrev pub TableFault : Refusal → Type 0
TableFault r = Among 8 8 r ⊎ Among 14 15 r

abbrev pub OfTable : Result Locator Refusal → Type 0
OfTable (Ok t) = Unit {0}
OfTable (Err r) = TableFault r

-- in one range
in_one : (hi : ℕ) (r : Refusal) → 15 ≤ hi → TableFault r → Among 8 hi r
in_one hi r l (inl h) = wider 8 hi r (omega arith) (omega arith) h
in_one hi r l (inr h) = wider 8 hi r (omega arith) l h

pub table_numbers : (p : List ℕ) → OfTable (table_of p)
unfolding table_of
table_numbers p =
    either OfTable (ltb (length p - 16) 8) (inl (omega arith, omega arith, λ n. refl))
    (either OfTable (ltb 1000 (le p 20 4)) (inr (omega arith, omega arith, λ n. refl))
    (either OfTable (eqb (le p 16 4) 0) (inr (omega arith, omega arith, λ n. refl))
    (either OfTable (ltb (length p - 16) (8 + 4 * le p 20 4)) (inl (omega arith, omega arith, λ n. refl)) tt)))

abbrev pub OfPosition : ℕ → Result ℕ Refusal → Type 0
OfPosition lo (Ok o) = Unit {0}
OfPosition lo (Err r) = Among lo 16 r

entry_numbers : (p : List ℕ) (d : ℕ) → OfPosition 8 (position_of p d)
unfolding position_of
entry_numbers p d = go (table_of p) (table_numbers p)
  where
    go : (a : Result Locator Refusal) → OfTable a → OfPosition 8 (by_table p d a)
    go (Err r) h = in_one 16 r (omega arith) h
    go (Ok t) h = either (OfPosition 8) (ltb (entry_for d t) t.count) tt (omega arith, omega arith, λ n. refl)

pub position_numbers : (s : List ℕ) (at d : ℕ) → OfPosition 1 (position_at s at d)
unfolding position_at
position_numbers s at d = go (packet_at s at 0xFC) (packet_numbers s at 0xFC)
  where
    of_entry : (a : Result ℕ Refusal) → OfPosition 8 a → OfPosition 1 a
    of_entry (Ok o) h = tt
    of_entry (Err r) h = wider 1 16 r (omega arith) (omega arith) h

    go : (a : Result Packet Refusal) → OfHeader 6 a → OfPosition 1 (position_in s at d a)
    go (Err r) h = wider 1 16 r (omega arith) (omega arith) h
    go (Ok p) h = of_entry (position_of (take p.len (drop at s)) d) (entry_numbers (take p.len (drop at s)) d)

-- what the header is refused with, table and position are refused with, and their 5 is the header's
module _ (s : List ℕ) (at : ℕ) (r : Refusal) where
  pub table_passes : header_at s at ≡ Err r → table_at s at ≡ Err r
  unfolding table_at
  table_passes e = rw (type_passes s at 0xFC r e)

  pub table_passed : table_at s at ≡ Err r → PassedOn s at r
  unfolding table_at
  table_passed = passed_by (table_in s at) (Err r) s at 0xFC r (omega arith) (λ q e. cc) (λ p e. in_one 15 r (omega arith) (subst OfTable e (table_numbers (take p.len (drop at s)))))

  pub position_passes : (d : ℕ) → header_at s at ≡ Err r → position_at s at d ≡ Err r
  unfolding position_at
  position_passes d e = rw (type_passes s at 0xFC r e)

  pub position_passed : (d : ℕ) → position_at s at d ≡ Err r → PassedOn s at r
  unfolding position_at
  position_passed d = passed_by (position_in s at d) (Err r) s at 0xFC r (omega arith) (λ q e. cc) (λ p e. subst (OfPosition 8) e (entry_numbers (take p.len (drop at s)) d))
