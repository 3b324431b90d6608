-- The laws of the packet's bytes: how many they are, and how the writers put them together.
use Prim.Native.Nat.{ℕ, ◌+◌, ◌-◌, ◌*◌, ◌<◌, ◌≤◌}
use mathlib.Core.Path.{◌≡◌, refl, ◌∙◌}
use mathlib.Core.Bool.{true, false}
use mathlib.Core.List.{List, [], ◌∷◌, ◌++◌, append_assoc, append-nil}
use native.Mathlib.Omega.{arith}
use native.Mathlib.Numerals.{add-one}
use lib.Dec.{ltb}
use borrow.Author.Tests.{le-ltb}
use lib.ListN.{length, get_or, take, length-append}
use lib.Seq.{sets, take-suc, length-take-le}
use Rattle.std.specs.Prelude.{Ok}
use Rattle.number.specs.Number.{be_bytes, le_bytes}
use Rattle.number.proofs.Laws.{length-le_bytes}
use Rattle.number.proofs.Stores.{sets_append}
use Rattle.locator_writer.specs.Write.{entry_bytes, length_of, locator_packet, may_write, locator_answer, locator_written_in}
use Rattle.packet_writer.specs.Write.{header_of, over, refused}
use Rattle.plate.specs.declared.Fault.TheVariants as fault

pub length_entries : (ns : List ℕ) → length (entry_bytes ns) ≡ 4 * length ns
unfolding entry_bytes
length_entries [] = refl
length_entries (n ∷ ns) = length-append (le_bytes 4 n) (entry_bytes ns) ∙ omega (arith, length-le_bytes 4 n, length_entries ns)

-- one entry more
entries_snoc : (ns : List ℕ) (n : ℕ) → entry_bytes (ns ++ (n ∷ [])) ≡ entry_bytes ns ++ le_bytes 4 n
unfolding entry_bytes
entries_snoc [] n = append-nil (le_bytes 4 n)
entries_snoc (m ∷ ns) n = rw (entries_snoc ns n, append_assoc)

pub entry_more : (l ns : List ℕ) (at i : ℕ) → i < length ns
    → sets (sets l at (entry_bytes (take i ns))) (at + 4 * i) (le_bytes 4 (get_or ns i 0)) ≡ sets l at (entry_bytes (take (i + 1) ns))
entry_more l ns at i h =
    let e : length (entry_bytes (take i ns)) ≡ 4 * i = length_entries (take i ns) ∙ rw (length-take-le i ns (omega arith)) in
    rw (add-one, take-suc ns i 0 h, entries_snoc, ← sets_append (entry_bytes (take i ns)) l at (le_bytes 4 (get_or ns i 0)), e)

-- a packet is put together from its four runs
pub four_runs : (l ns : List ℕ) (step : ℕ)
    → sets (sets (sets (sets l 0 (header_of 0xFC (length_of ns))) 16 (le_bytes 4 step)) 20 (le_bytes 4 (length ns))) 24 (entry_bytes ns) ≡ sets l 0 (locator_packet step ns)
unfolding locator_packet header_of be_bytes le_bytes
four_runs l ns step = refl

pub length-packet : (step : ℕ) (ns : List ℕ) → length (locator_packet step ns) ≡ length_of ns
unfolding locator_packet header_of be_bytes le_bytes
length-packet step ns = omega (arith, length_entries ns)

-- the three outcomes
module _ (out : List ℕ) (at step : ℕ) (ns : List ℕ) where
  pub barred : may_write step ns ≡ false → (locator_answer out at step ns ≡ refused fault.Barred) × (locator_written_in out at step ns ≡ out)
  unfolding locator_answer locator_written_in
  barred e = simp e (refl, refl)

  pub no_room : may_write step ns ≡ true → ltb (length out - at) (length_of ns) ≡ true → (locator_answer out at step ns ≡ refused fault.Room) × (locator_written_in out at step ns ≡ out)
  unfolding locator_answer locator_written_in
  no_room e h = simp (e, h) (refl, refl)

  pub wrote : may_write step ns ≡ true → at + length_of ns ≤ length out
      → (locator_answer out at step ns ≡ Ok (length_of ns)) × (locator_written_in out at step ns ≡ over out at (locator_packet step ns))
  unfolding locator_answer locator_written_in
  wrote e h = simp (e, le-ltb (length out - at) (length_of ns) (omega arith)) (refl, refl)
