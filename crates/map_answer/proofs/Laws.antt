-- What a part that was found tells of the bytes, and which numbers are codes.
use Prim.Native.Nat.{ℕ, ◌+◌, ◌-◌, ◌<◌, ◌≤◌}
use mathlib.Core.Path.{◌≡◌, refl, ap, sym, ◌∙◌}
use mathlib.Core.List.{List, [], ◌∷◌}
use mathlib.Core.Bool.{Bool, true, false}
use native.Mathlib.Omega.{arith}
use native.Mathlib.Nat.{add-zero, add-sub_cancel_left}
use lib.ListN.{length, take, drop}
use lib.Dec.{eqb, leb}
use borrow.Author.Tests.{eq-eqb, ne_eqb, le-leb, lt-leb, leb-true, leb-false}
use Rattle.std.specs.Prelude.{Some, None}
use Rattle.plate.specs.Choice.{pick}
use Rattle.plate.proofs.Tests.{no_choice}
use Rattle.number.specs.Number.{be}
use Rattle.number.proofs.Laws.{be-drop, be-take}
use Rattle.map_items.specs.Items.{Item, section_of}
use Rattle.map_items.specs.Judge.{has}
use Rattle.map_items.specs.Find.{Found, missing, found, find, part_of, bytes_of}
use Rattle.map_items.proofs.Lookup.{section_stands}
use Rattle.map_answer.specs.Answer.{value_of, allowed}
use Rattle.map_answer.specs.Inside.{InSection, part_bytes}
use Rattle.map_items.specs.declared.Part.{Part}
use Rattle.map_items.proofs.Same.{same_part}

-- what was found behind a part
pub record Behind (x : Found) (q n : ℕ) : Type 0 where
  pub bytes : List ℕ
  pub was : x ≡ found q bytes
  pub long : length bytes ≡ n

pub behind : (x : Found) (q n : ℕ) → part_of x ≡ Some (record { at = q; len = n }) → Behind x q n
behind missing q n e = absurd (let z : ◌≡◌ {A = ℕ} 0 1 = cc in omega arith)
behind (found p v) q n e =
    let same = same_part p (length v) q n e in
    record { bytes = v; was = ap (λ (k : ℕ). found k v) same.0; long = same.1 }

pub none_behind : (x : Found) → part_of x ≡ None → x ≡ missing
none_behind missing e = refl
none_behind (found p v) e = absurd (let z : ◌≡◌ {A = ℕ} 0 1 = cc in omega arith)

module _ (tag base : ℕ) (s : List ℕ) (q n : ℕ) (e : part_of (find tag base (section_of s).list) ≡ Some (record { at = q; len = n })) where
  -- where a part stands in its section
  pub stands : (base + 2 ≤ q) × (q + n ≤ base + length s)
  stands =
      let b = behind _ q n e in
      let r = section_stands tag base s q b.bytes b.was in
      (r.0, omega (arith, r.1, b.long))

  -- four bytes are a number, and any other count is none
  pub is_value : n ≡ 4 → Some (be s (q - base) 4) ≡ value_of (find tag base (section_of s).list)
  unfolding value_of
  is_value h =
      let b = behind _ q n e in
      let r = section_stands tag base s q b.bytes b.was in
      let l : length b.bytes ≡ 4 = b.long ∙ h in
      let v : b.bytes ≡ take 4 (drop (q - base) s) = sym r.2 ∙ rw l in
      sym (rw (b.was, eq-eqb _ _ l, v, be-take 4 (drop (q - base) s) 0 4 (omega arith), be-drop (q - base) s 0 4, add-zero))

  pub no_value : (n ≡ 4 → ⊥) → None ≡ value_of (find tag base (section_of s).list)
  unfolding value_of
  no_value h =
      let b = behind (find tag base (section_of s).list) q n e in
      sym (rw (b.was, ne_eqb (length b.bytes) 4 (λ l. h (sym b.long ∙ l))))

pub nothing_value : (x : Found) → part_of x ≡ None → None ≡ value_of x
unfolding value_of
nothing_value x e = sym (rw (none_behind x e))

-- no number over 8 has a meaning
pub over_allowed : (tag n : ℕ) → 8 < n → allowed tag n ≡ false
unfolding allowed has
over_allowed tag n h =
    simp (le-leb 1 n (omega arith), lt-leb n 8 (omega arith), ne_eqb n 1 (λ e. omega arith), ne_eqb n 2 (λ e. omega arith), ne_eqb n 4 (λ e. omega arith), ne_eqb n 6 (λ e. omega arith))
    (go (eqb tag 0x50) (eqb tag 0x51) (eqb tag 0x52))
  where
    go : (x y z : Bool) → pick x false (pick y false (pick z false false)) ≡ false
    go true y z = refl
    go false true z = refl
    go false false z = no_choice z false

pub allowed_small : (tag n : ℕ) → allowed tag n ≡ true → n ≤ 8
allowed_small tag n e = go (leb n 8) refl
  where
    go : (b : Bool) → leb n 8 ≡ b → n ≤ 8
    go true q = leb-true _ _ q
    go false q = absurd (let f : true ≡ false = sym e ∙ over_allowed tag n (leb-false _ _ q) in let z : ◌≡◌ {A = ℕ} 0 1 = cc in omega arith)

-- a part that is shown lies in its section, and its bytes are the item's
module _ (tag base : ℕ) (s : List ℕ) where
  abbrev it : Found
  it = find tag base (section_of s).list

  pub shown_in : (null : Bool) → InSection s base (pick null None (part_of it))
  shown_in true = tt
  shown_in false = go it refl
    where
      go : (x : Found) → it ≡ x → InSection s base (part_of x)
      go missing e = tt
      go (found q v) e = let r = section_stands tag base s q v e in (omega (arith, r.0), r.1)

  pub shown_bytes_lem : (null : Bool) → part_bytes s base (pick null None (part_of it)) ≡ pick null [] (bytes_of it)
  unfolding part_bytes
  shown_bytes_lem true = refl
  shown_bytes_lem false = go it refl
    where
      go : (x : Found) → it ≡ x → part_bytes s base (part_of x) ≡ bytes_of x
      go missing e = refl
      go (found q v) e = rw add-sub_cancel_left (section_stands tag base s q v e).2

-- a number is the same wherever the items stand
pub value_anywhere : (tag q r : ℕ) (is : List Item) → value_of (find tag q is) ≡ value_of (find tag r is)
unfolding find value_of
value_anywhere tag q r [] = refl
value_anywhere tag q r (i ∷ is) = go (eqb i.tag tag) (value_anywhere tag (q + 2 + length i.value) (r + 2 + length i.value) is)
  where
    go : (b : Bool) → value_of (find tag (q + 2 + length i.value) is) ≡ value_of (find tag (r + 2 + length i.value) is)
        → value_of (pick b (found (q + 2) i.value) (find tag (q + 2 + length i.value) is))
        ≡ value_of (pick b (found (r + 2) i.value) (find tag (r + 2 + length i.value) is))
    go true e = refl
    go false e = e
