-- What the bytes of a packet say when they are read, and what an answered length tells.
use Prim.Native.Nat.{ℕ, zero, suc, ◌+◌, ◌-◌, ◌*◌, ◌/◌, ◌<◌, ◌≤◌, ◌^◌}
use mathlib.Core.Path.{◌≡◌, refl, sym}
use mathlib.Core.Bool.{Bool, true, false}
use mathlib.Core.List.{List, [], ◌∷◌, ◌++◌, append_assoc, append-nil}
use native.Mathlib.Omega.{arith}
use native.Mathlib.Nat.{add-zero}
use borrow.Author.Tests.{ltb-true, ltb-false, eqb-false, le-ltb, lt-ltb, ne_eqb}
use lib.ListN.{length, get_or, length-append}
use lib.Dec.{ltb, eqb}
use Rattle.std.specs.Prelude.{Ok, Err}
use Rattle.std.proofs.lemmas.List.{get_or_past}
use Rattle.std.specs.Bool.{MatchBool}
use Rattle.std.specs.List.{AllWithin, HoldsAt}
use Rattle.plate.specs.Choice.{pick}
use Rattle.plate.specs.Plate.{refusal}
use Rattle.number.specs.Number.{be, le, be_bytes, le_bytes}
use Rattle.number.proofs.Laws.{le_back, length-le_bytes}
use Rattle.packet.specs.Packet.{header_at}
use Rattle.packet.proofs.Laws.{accepts}
use Rattle.locator.specs.Locator.{table_of, position_of}
use Rattle.locator_writer.specs.Write.{entry_bytes, length_of, locator_packet, all_fit, may_write, locator_answer}
use Rattle.packet_writer.specs.Write.{header_of, refused}
use Rattle.locator_writer.proofs.Laws.{length-packet}
use Rattle.packet_writer.proofs.Laws.{length-header}
use Rattle.plate.specs.declared.Fault.TheVariants as fault

-- what may be written is within its bounds
pub record May (step : ℕ) (ns : List ℕ) : Type 0 where
  pub some : 0 < step
  pub fits : step < 256 ^ 4
  pub few : length ns ≤ 1000
  pub all : all_fit ns ≡ true

else_true : (b c : Bool) → pick b false c ≡ true → (b ≡ false) × (c ≡ true)
else_true true c e = absurd (let z : ◌≡◌ {A = Bool} false true = e in let y : ◌≡◌ {A = ℕ} 0 1 = cc in omega arith)
else_true false c e = (refl, e)

pub may : (step : ℕ) (ns : List ℕ) → may_write step ns ≡ true → May step ns
unfolding may_write
may step ns e =
    let a = else_true (eqb step 0) _ e in
    let b = else_true (ltb 0xFFFFFFFF step) _ a.1 in
    let d = else_true (ltb 1000 (length ns)) _ b.1 in
    record { some = omega (arith, eqb-false); fits = omega (arith, ltb-false); few = omega (arith, ltb-false); all = d.1 }

pub all_small : (ns : List ℕ) → all_fit ns ≡ true → (k : ℕ) → get_or ns k 0 ≤ 0xFFFFFFFF
unfolding all_fit
all_small [] e k = omega arith
all_small (n ∷ ns) e zero = let a = else_true (ltb 0xFFFFFFFF n) _ e in omega (arith, ltb-false)
all_small (n ∷ ns) e (suc k) = all_small ns (else_true (ltb 0xFFFFFFFF n) _ e).1 k

pub small_all : (ns : List ℕ) → ((k : ℕ) → get_or ns k 0 ≤ 0xFFFFFFFF) → all_fit ns ≡ true
unfolding all_fit
small_all [] f = refl
small_all (n ∷ ns) f = simp (le-ltb 0xFFFFFFFF n (f 0), small_all ns (λ k. f (suc k)))

-- so whether all fit is what a pass over them tells
pub all_told : (r : Bool) (ns : List ℕ) → MatchBool r (AllWithin (λ x. x ≤ 0xFFFFFFFF) ns 0 (length ns)) ((k : ℕ) × (k < length ns) × HoldsAt (λ x. 0xFFFFFFFF < x) ns k) → r ≡ all_fit ns
all_told true ns h = sym (small_all ns (λ k. go k (ltb k (length ns)) refl))
  where
    go : (k : ℕ) (b : Bool) → ltb k (length ns) ≡ b → get_or ns k 0 ≤ 0xFFFFFFFF
    go k true q = h k 0 (omega arith) (ltb-true k (length ns) q)
    go k false q = rw (get_or_past ns k 0 (ltb-false k (length ns) q)) (omega arith)
all_told false ns h = go (all_fit ns) refl
  where
    go : (b : Bool) → all_fit ns ≡ b → false ≡ b
    go false q = refl
    go true q = absurd (let m = all_small ns q h.0 in let n = h.2 0 in omega arith)

-- entry k of the entries reads back, whatever stands before and after them
entry_back : (p ns t : List ℕ) (k : ℕ) → all_fit ns ≡ true → k < length ns → le (p ++ (entry_bytes ns ++ t)) (length p + 4 * k) 4 ≡ get_or ns k 0
unfolding all_fit entry_bytes
entry_back p [] t k e h = absurd (omega arith)
entry_back p (n ∷ ns) t zero e h =
    let a = else_true (ltb 0xFFFFFFFF n) _ e in
    rw (append_assoc, add-zero) (le_back p 4 n (entry_bytes ns ++ t) (omega (arith, ltb-false)))
entry_back p (n ∷ ns) t (suc k) e h =
    let a = else_true (ltb 0xFFFFFFFF n) _ e in
    let b = entry_back (p ++ le_bytes 4 n) ns t k a.1 (omega arith) in
    let g : (p ++ le_bytes 4 n) ++ (entry_bytes ns ++ t) ≡ p ++ ((le_bytes 4 n ++ entry_bytes ns) ++ t) = simp append_assoc in
    let l : length (p ++ le_bytes 4 n) + 4 * k ≡ length p + 4 * suc k = rw length-append (omega (arith, length-le_bytes 4 n)) in
    rw (g, l) at b

-- what a packet's bytes say
module _ (step : ℕ) (ns : List ℕ) (m : May step ns) where
  steps : le (locator_packet step ns) 16 4 ≡ step
  unfolding locator_packet
  steps =
      let a = rw length-header at (le_back (header_of 0xFC (length_of ns)) 4 step (le_bytes 4 (length ns) ++ entry_bytes ns) m.fits) in
      simp append_assoc a

  counted : le (locator_packet step ns) 20 4 ≡ length ns
  unfolding locator_packet
  counted =
      let h = header_of 0xFC (length_of ns) in
      let l : length (h ++ le_bytes 4 step) ≡ 20 = rw (length-append, length-header, length-le_bytes) in
      let a = rw l at (le_back (h ++ le_bytes 4 step) 4 (length ns) (entry_bytes ns) (let f = m.few in omega arith)) in
      simp append_assoc (simp append_assoc at a)

  entry : (k : ℕ) → k < length ns → le (locator_packet step ns) (24 + 4 * k) 4 ≡ get_or ns k 0
  unfolding locator_packet
  entry k h =
      let p = header_of 0xFC (length_of ns) ++ le_bytes 4 step ++ le_bytes 4 (length ns) in
      let l : length p ≡ 24 = rw (length-append, length-append, length-header, length-le_bytes, length-le_bytes) in
      rw (l, append-nil) at (entry_back p ns [] k m.all h)

  pub table : table_of (locator_packet step ns) ≡ Ok (record { step = step; count = length ns })
  unfolding table_of
  table =
      let few = m.few in let some = m.some in
      rw (steps, counted, length-packet step ns)
      (simp (le-ltb (length_of ns - 16) 8 (omega arith), le-ltb 1000 (length ns) few, ne_eqb step 0 (λ e. omega arith), le-ltb (length_of ns - 16) (8 + 4 * length ns) (omega arith)))

  pub position : (d : ℕ) → d / step < length ns → position_of (locator_packet step ns) d ≡ Ok (1024 * get_or ns (d / step) 0)
  unfolding position_of
  position d h = simp (table, lt-ltb (d / step) (length ns) h, entry (d / step) h)

  pub past : (d : ℕ) → length ns ≤ d / step → position_of (locator_packet step ns) d ≡ Err (refusal fault.NotThere 0)
  unfolding position_of
  past d h = simp (table, le-ltb (d / step) (length ns) h)

  -- its header, whatever follows
  within : (r : List ℕ) → length_of ns ≤ length (locator_packet step ns ++ r) - 0
  within r = rw (length-append, length-packet step ns) (omega arith)

  pub header : (r : List ℕ) → header_at (locator_packet step ns ++ r) 0 ≡ Ok (record { packet_type = 0xFC; len = length_of ns })
  unfolding locator_packet header_of be_bytes be
  header r =
      let few = m.few in
      accepts (locator_packet step ns ++ r) 0 (length_of ns) refl refl (omega arith) (omega arith) (omega arith) (within r)

-- a length was answered: what may be written was given, and there was room for it
pub record Room (out : List ℕ) (at step : ℕ) (ns : List ℕ) (n : ℕ) : Type 0 where
  pub may : may_write step ns ≡ true
  pub lens : n ≡ length_of ns
  pub room : at + length_of ns ≤ length out

pub answered : (out : List ℕ) (at step : ℕ) (ns : List ℕ) (n : ℕ) → locator_answer out at step ns ≡ Ok n → Room out at step ns n
unfolding locator_answer
answered out at step ns n = go (may_write step ns) refl (ltb (length out - at) (length_of ns)) refl
  where
    go : (a : Bool) → may_write step ns ≡ a → (b : Bool) → ltb (length out - at) (length_of ns) ≡ b
        → pick a (pick b (refused fault.Room) (Ok (length_of ns))) (refused fault.Barred) ≡ Ok n → Room out at step ns n
    go true p false q e = let l : n ≡ length_of ns = cc in record { may = p; lens = l; room = omega (arith, ltb-false) }
    go true p true q e = absurd (let z : ◌≡◌ {A = ℕ} 0 1 = cc in omega arith)
    go false p b q e = absurd (let z : ◌≡◌ {A = ℕ} 0 1 = cc in omega arith)
