-- The lines of a text, one after another: what a label tells, and a turn of the lines whatever the bound on them.
use Prim.Native.Nat.{ℕ, zero, suc, ◌+◌, ◌-◌, ◌<◌, ◌≤◌}
use mathlib.Core.Path.{◌≡◌, refl, ap, subst, ◌∙◌}
use mathlib.Core.Bool.{Bool, true, false}
use mathlib.Core.List.{List}
use native.Mathlib.Omega.{arith}
use native.Mathlib.Nat.{add-zero}
use borrow.Author.Tests.{ltb-true, ltb-false, lt-ltb, le-ltb}
use lib.ListN.{length, get_or, drop}
use lib.Seq.{get_or-take, get_or-drop}
use lib.Dec.{ltb, eqb}
use Rattle.std.specs.Prelude.{is_some, Option, Some, None, ⊤}
use Rattle.number.specs.Number.{be}
use Rattle.mpeg_scan.specs.Scan.{run}
use Rattle.mpeg_parameter.specs.Table.{table, row_for, other_row}
use Rattle.mpeg_parameter.proofs.Rows.{rows}
use Rattle.mpeg.specs.Inside.{Known}
use Rattle.plate.specs.Choice.{pick}
use Rattle.mpeg_scan.specs.Scan.{alnum, other}
use Rattle.mpeg_scan.proofs.Laws.{run_first, run_from}
use Rattle.std.proofs.lemmas.List.{get_or_past}
use Rattle.mpeg_parameter.specs.Table.{row_of}
use Rattle.mpeg.specs.Lines.{Lines, done, name_end, value_end, label_at, label_then, lines_from, lines_at}
use Rattle.plate.specs.Part.{part}
use Rattle.mpeg.specs.declared.Label.{Label}

alnum_some : (b : ℕ) → alnum b ≡ true → 0 < b
unfolding alnum
alnum_some zero e = absurd (let z : ◌≡◌ {A = ℕ} 0 1 = cc in omega arith)
alnum_some (suc b) e = omega arith

module _ (s : List ℕ) (at : ℕ) where
  -- an identifier's first byte is no 0
  pub first : at < length s → at < name_end s at → 0 < get_or (part at (name_end s at) s) 0 0
  first h k =
      rw (get_or-take (name_end s at - at) (drop at s) 0 0 (omega arith), get_or-drop at s 0 0, add-zero)
      (alnum_some (get_or s at 0) (run_first alnum s at 0 k))

  -- a space is a byte of the text
  pub space_in : eqb (get_or s at 0) 0x20 ≡ true → at < length s
  space_in = go (ltb at (length s)) refl
    where
      go : (b : Bool) → ltb at (length s) ≡ b → eqb (get_or s at 0) 0x20 ≡ true → at < length s
      go true q e = ltb-true at (length s) q
      go false q e =
          let p = get_or_past s at 0 (ltb-false at (length s) q) in
          let w : eqb 0 0x20 ≡ true = rw p at e in
          absurd (let z : ◌≡◌ {A = ℕ} 0 1 = cc in omega arith)

-- where the value of a label begins, if there is one
abbrev value_in : Option Label → ℕ
value_in (Some l) = l.value
value_in None = 0

-- a label's value begins after the label's place, within the text
pub label_in : (s : List ℕ) (at : ℕ) (k : Option ℕ) (v : ℕ) → label_at s at ≡ Some (record { row = k; value = v }) → (at < v) × (v ≤ length s)
unfolding label_at
label_in s at k v = go (ltb at (name_end s at)) (eqb (get_or s (name_end s at) 0) 0x20) refl refl
  where
    go : (a b : Bool) → ltb at (name_end s at) ≡ a → eqb (get_or s (name_end s at) 0) 0x20 ≡ b
        → pick {A = Option Label} a (pick b (Some (record { row = row_of (part at (name_end s at) s); value = name_end s at + 1 })) None) None ≡ Some (record { row = k; value = v }) → (at < v) × (v ≤ length s)
    go true true p q e =
        let w : name_end s at + 1 ≡ v = ap value_in e in
        let h = ltb-true at (name_end s at) p in
        let l = space_in s (name_end s at) q in
        (omega arith, omega arith)
    go true false p q e = absurd (let z : ◌≡◌ {A = ℕ} 0 1 = cc in omega arith)
    go false b p q e = absurd (let z : ◌≡◌ {A = ℕ} 0 1 = cc in omega arith)

-- a label's row is one of the table's, if it is known
row_known : (v : List ℕ) → Known (row_of v)
unfolding row_of row_for
row_known v = go (ltb (run (other_row (be v 0 (length v))) table) (length table)) refl
  where
    go : (b : Bool) → ltb (run (other_row (be v 0 (length v))) table) (length table) ≡ b → Known (pick b (Some (run (other_row (be v 0 (length v))) table)) None)
    go true q = let w = ltb-true _ _ q in omega (arith, rows)
    go false q = tt

abbrev KnownIn : Option Label → Type 0
KnownIn None = ⊤
KnownIn (Some l) = Known l.row

known_in : (s : List ℕ) (at : ℕ) → KnownIn (label_at s at)
unfolding label_at
known_in s at = go (ltb at (name_end s at)) (eqb (get_or s (name_end s at) 0) 0x20)
  where
    go : (a b : Bool) → KnownIn (pick {A = Option Label} a (pick b (Some (record { row = row_of (part at (name_end s at) s); value = name_end s at + 1 })) None) None)
    go true true = row_known (part at (name_end s at) s)
    go true false = tt
    go false b = tt

pub label_known : (s : List ℕ) (at : ℕ) (l : Label) → label_at s at ≡ Some l → Known l.row
label_known s at l e = subst KnownIn e (known_in s at)

-- an unknown label is so by its row
pub unknown_label : (a : Option Label) (l : Label) → a ≡ Some l → is_some l.row ≡ false → a ≡ Some (record { row = None; value = l.value })
unknown_label a l e h = e ∙ go l.row h
  where
    go : (r : Option ℕ) → is_some r ≡ false → ◌≡◌ {A = Option Label} (Some (record { row = r; value = l.value })) (Some (record { row = None; value = l.value }))
    go None h = refl
    go (Some k) h = absurd (let z : ◌≡◌ {A = ℕ} 0 1 = cc in omega arith)

-- the rest of the lines begins after the line
pub next_in : (s : List ℕ) (p : ℕ) (k : Option ℕ) (v : ℕ) → label_at s p ≡ Some (record { row = k; value = v }) → p < value_end s v
next_in s p k v e =
    let g = label_in s p k v e in
    let r = run_from (other 0x0A) s v in
    omega arith

then_alike : (s : List ℕ) (p : ℕ) (x y : ℕ → Lines) (l : Option Label) → label_at s p ≡ l → ((next : ℕ) → p < next → x next ≡ y next)
    → label_then s p x l ≡ label_then s p y l
then_alike s p x y None e h = refl
then_alike s p x y (Some k) e h = let g = next_in s p k.row k.value e in rw (h (value_end s k.value + 1) (omega arith))

-- how many lines are asked for does not matter, as long as they are enough
enough : (f g : ℕ) (s : List ℕ) (at : ℕ) → length s - at < f → length s - at < g → lines_from f s at ≡ lines_from g s at
unfolding lines_from
enough zero g s at h k = absurd (omega arith)
enough (suc f) zero s at h k = absurd (omega arith)
enough (suc f) (suc g) s at h k = go (ltb at (length s)) refl (λ l. then_alike s at (lines_from f s) (lines_from g s) (label_at s at) refl (λ next n. enough f g s next (omega arith) (omega arith)))
  where
    go : (b : Bool) → ltb at (length s) ≡ b → (at < length s → label_then s at (lines_from f s) (label_at s at) ≡ label_then s at (lines_from g s) (label_at s at))
        → pick b (label_then s at (lines_from f s) (label_at s at)) done ≡ pick b (label_then s at (lines_from g s) (label_at s at)) done
    go true q r = r (ltb-true at (length s) q)
    go false q r = refl

pub lines_end : (s : List ℕ) (at : ℕ) → length s ≤ at → lines_at s at ≡ done
unfolding lines_at lines_from
lines_end s at h = simp (le-ltb at (length s) h)

pub lines_turn : (s : List ℕ) (at : ℕ) → at < length s → lines_at s at ≡ label_then s at (lines_at s) (label_at s at)
unfolding lines_at lines_from
lines_turn s at h =
    rw (lt-ltb at (length s) h)
    (then_alike s at (lines_from (length s) s) (lines_from (suc (length s)) s) (label_at s at) refl (λ next n. enough (length s) (suc (length s)) s next (omega arith) (omega arith)))
