-- The IDs given so far as flags: what the flags say of one more is what the list says.
use Prim.Native.Nat.{ℕ, ◌<◌, ◌≤◌}
use mathlib.Core.Path.{◌≡◌, refl, sym, ◌∙◌}
use mathlib.Core.Bool.{Bool, true, false}
use mathlib.Core.List.{List, [], ◌∷◌, ◌++◌}
use native.Mathlib.Omega.{arith}
use borrow.Author.Tests.{ltb-true, ltb-false, eqb-true, eqb-false}
use lib.ListN.{length, get_or, set, replicate, length-replicate, get_or-replicate}
use lib.Seq.{get_or-set_same, get_or-set_other}
use lib.Dec.{ltb, eqb}
use Rattle.std.specs.Prelude.{Option, Some, None}
use Rattle.plate.specs.Choice.{pick}
use Rattle.plate.specs.declared.Fault.{Fault}
use Rattle.plate.specs.declared.Fault.TheVariants as fault
use Rattle.map_items.specs.Judge.{has}
use Rattle.map_given.specs.Given.{tracks_given}
use Rattle.map_given.specs.Inside.{flag_fault}
use Rattle.map_given.specs.Faults.{graver, id_fault, ids_fault}
use Rattle.map_given.proofs.Laws.{Keeps, graver_assoc, graver_none, tracks_more, no_tracks}

-- one ID more
flag_fault_lem : (flags : List Bool) (ids : List ℕ) (id : ℕ) → Keeps flags ids → flag_fault flags id ≡ id_fault ids id
unfolding flag_fault id_fault
flag_fault_lem flags ids id k = go (ltb 63 id) refl
  where
    go : (x : Bool) → ltb 63 id ≡ x → ◌≡◌ {A = Option Fault} (pick x (Some fault.Barred) (pick (get_or flags id false) (Some fault.Twice) None)) (pick x (Some fault.Barred) (pick (has id ids) (Some fault.Twice) None))
    go true e = refl
    go false e = rw (k id (omega (arith, ltb-false)))

-- the flags with it
pub flagged : (flags next : List Bool) (ids : List ℕ) (id : ℕ) → length flags ≡ 64 → Keeps flags ids → (id ≤ 63 → next ≡ set flags id true) → (63 < id → next ≡ flags) → Keeps next (id ∷ ids)
unfolding has
flagged flags next ids id l f a b k h = go (ltb 63 id) refl (eqb k id) refl
  where
    go : (x : Bool) → ltb 63 id ≡ x → (y : Bool) → eqb k id ≡ y → get_or next k false ≡ pick y true (has k ids)
    go true e true g = absurd (let z = eqb-true k id g in omega (arith, ltb-true))
    go true e false g = rw (b (ltb-true _ _ e)) (f k h)
    go false e true g = let z = eqb-true k id g in rw (a (ltb-false _ _ e), z) (get_or-set_same flags id true false (omega (arith, ltb-false)))
    go false e false g = let z = eqb-false k id g in rw (a (ltb-false _ _ e)) (get_or-set_other flags id k true false (λ j. z j) ∙ f k h)

-- what is left: after these IDs, kept by the flags, the gravest fault so far and that of the rest are that of the whole
pub record IdsLeft (whole worst : Option Fault) (flags : List Bool) (rest : List ℕ) : Type 0 where
  pub ids : List ℕ
  pub keeps : Keeps flags ids
  pub long : length flags ≡ 64
  pub same : whole ≡ graver worst (ids_fault ids (tracks_given rest))

pub ids_start : (ts : List ℕ) → IdsLeft (ids_fault [] (tracks_given ts)) None (replicate 64 false) ts
unfolding has
ids_start ts = record { ids = []; keeps = λ k h. get_or-replicate 64 k false false h; long = length-replicate 64 false; same = refl }

pub ids_turn : (whole worst f w : Option Fault) (flags next : List Bool) (x r : List ℕ) → length x ≡ 23 → IdsLeft whole worst flags (x ++ r)
    → w ≡ graver worst f → f ≡ flag_fault flags (get_or x 1 0) → length next ≡ 64 → (get_or x 1 0 ≤ 63 → next ≡ set flags (get_or x 1 0) true) → (63 < get_or x 1 0 → next ≡ flags) → IdsLeft whole w next r
unfolding ids_fault
ids_turn whole worst f w flags next x r h l e g n a b =
    let id = get_or x 1 0 in
    let q : f ≡ id_fault l.ids id = g ∙ flag_fault_lem flags l.ids id l.keeps in
    record {
      ids = id ∷ l.ids;
      keeps = flagged flags next l.ids id l.long l.keeps a b;
      long = n;
      same = l.same ∙ rw (tracks_more x r h, e, ← q) (sym (graver_assoc worst f (ids_fault (id ∷ l.ids) (tracks_given r))));
    }

pub ids_out : (whole worst : Option Fault) (flags : List Bool) (r : List ℕ) → length r < 23 → IdsLeft whole worst flags r → worst ≡ whole
unfolding ids_fault
ids_out whole worst flags r h l = sym (l.same ∙ rw (no_tracks r h) (graver_none worst))
