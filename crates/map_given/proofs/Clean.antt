-- What an input without fault is: its slots fit their fields, its types are known, its IDs are narrow and once each.
use Prim.Native.Nat.{ℕ, zero, suc, ◌+◌, ◌*◌, ◌%◌, ◌<◌, ◌≤◌}
use mathlib.Core.Path.{◌≡◌, refl, sym}
use mathlib.Core.Bool.{Bool, true, false}
use mathlib.Core.List.{List, [], ◌∷◌, ◌++◌, map}
use native.Mathlib.Omega.{arith}
use borrow.Author.Tests.{eq-eqb, ne_eqb, eqb-true, ltb-false, leb-true}
use lib.ListN.{length, take, drop, length-map}
use lib.Dec.{ltb, leb, eqb}
use Rattle.std.specs.Prelude.{Option, Some, None}
use Rattle.plate.specs.Choice.{pick}
use Rattle.plate.specs.declared.Fault.{Fault}
use Rattle.plate.specs.declared.Fault.TheVariants as fault
use Rattle.text.specs.Text.{text_ok}
use Rattle.media_type.specs.MediaType.{known_type}
use Rattle.map_items.specs.Judge.{has}
use Rattle.map_items.proofs.Anywhere.{never}
use Rattle.map_items.proofs.Few.{Fresh, Between, few}
use Rattle.map_given.specs.declared.Slot.{Slot}
use Rattle.map_given.specs.Given.{slot_at, slots, material_slots, Given, tracks_given}
use Rattle.map_given.specs.Faults.{is_text, is_eight, fits, reads, slot_fault, graver, slots_fault, given, null_name, barred, own_fault, tracks_fault, id_fault, ids_fault, fault_of}
use Rattle.map_given.proofs.Laws.{no_fault, none_graver}

-- a present slot fits its field
module _ (text : List ℕ) (s : Slot) where
  pub present_fits : s.mark ≡ 1 → slot_fault text s ≡ None → fits text s ≡ true
  unfolding slot_fault
  present_fits e = simp (eq-eqb s.mark 1 e, ne_eqb s.mark 0 (λ z. omega arith)) (go (fits text s) (reads text s))
    where
      go : (a b : Bool) → ◌≡◌ {A = Option Fault} (pick a (pick b None (Some fault.Text)) (Some fault.Barred)) None → a ≡ true
      go true b f = refl
      go false b f = no_fault f

  pub eight_fits : is_text s.tag ≡ false → is_eight s.tag ≡ true → fits text s ≡ true → (s.second ≡ 8) × (s.first + 8 ≤ length text)
  unfolding fits
  eight_fits e f = rw (e, f) (go (eqb s.second 8) refl)
    where
      go : (x : Bool) → eqb s.second 8 ≡ x → pick x (leb (s.first + s.second) (length text)) false ≡ true → (s.second ≡ 8) × (s.first + 8 ≤ length text)
      go true a b = let q = eqb-true s.second 8 a in (q, omega (arith, leb-true))
      go false a b = absurd (let z : ◌≡◌ {A = Bool} false true = b in let y : ◌≡◌ {A = ℕ} 0 1 = cc in omega arith)

-- a text that reads
pub reads_text : (text : List ℕ) (s : Slot) → s.mark ≡ 1 → is_text s.tag ≡ true → slot_fault text s ≡ None → text_ok (take s.second (drop s.first text) ++ (0 ∷ [])) ≡ true
unfolding slot_fault reads
reads_text text s e f = simp (eq-eqb s.mark 1 e, ne_eqb s.mark 0 (λ z. omega arith), f) (go (fits text s) (text_ok (take s.second (drop s.first text) ++ (0 ∷ []))))
  where
    go : (a b : Bool) → ◌≡◌ {A = Option Fault} (pick a (pick b None (Some fault.Text)) (Some fault.Barred)) None → b ≡ true
    go true true h = refl
    go true false h = no_fault h
    go false b h = no_fault h

-- a slot of some without fault has none
module _ (text ws : List ℕ) where
  pub slot_of : (k n at t tag place : ℕ) → k < n → tag ≡ t + k → place ≡ at + 3 * k → slots_fault text (slots n ws at t) ≡ None → slot_fault text (slot_at ws place tag) ≡ None
  unfolding slots slots_fault
  slot_of k zero at t tag place h e f g = absurd (omega arith)
  slot_of zero (suc n) at t tag place h e f g =
      let a : tag ≡ t = omega arith in
      let b : place ≡ at = omega arith in
      rw (a, b) (none_graver (slot_fault text (slot_at ws at t)) (slots_fault text (slots n ws (at + 3) (t + 1))) g).0
  slot_of (suc k) (suc n) at t tag place h e f g =
      slot_of k n (at + 3) (t + 1) tag place (omega arith) (omega arith) (omega arith) (none_graver (slot_fault text (slot_at ws at t)) (slots_fault text (slots n ws (at + 3) (t + 1))) g).1

-- a track's type without fault is one of Table 5, and an ID without fault is at most 63
pub own_known : (t : Given) → own_fault t ≡ None → known_type t.media_type ≡ true
unfolding own_fault
own_known t = go (known_type t.media_type)
  where
    go : (a : Bool) → ◌≡◌ {A = Option Fault} (pick a (pick (barred t.slots) (Some fault.Barred) (pick (given 0x4D t.slots) (pick (given 0x4F t.slots) (Some fault.Twice) None) None)) (Some fault.Barred)) None → a ≡ true
    go true h = refl
    go false h = no_fault h

abbrev pub Narrow : List Given → Type 0
Narrow [] = Unit {0}
Narrow (t ∷ ts) = (t.id < 64) × Narrow ts

pub ids_narrow : (ids : List ℕ) (ts : List Given) → ids_fault ids ts ≡ None → Narrow ts
unfolding ids_fault id_fault
ids_narrow ids [] h = tt
ids_narrow ids (t ∷ ts) h =
    let n = none_graver (pick (ltb 63 t.id) (Some fault.Barred) (pick (has t.id ids) (Some fault.Twice) None)) (ids_fault (t.id ∷ ids) ts) h in
    (go (ltb 63 t.id) refl n.0, ids_narrow (t.id ∷ ids) ts n.1)
  where
    go : (a : Bool) → ltb 63 t.id ≡ a → ◌≡◌ {A = Option Fault} (pick a (Some fault.Barred) (pick (has t.id ids) (Some fault.Twice) None)) None → t.id < 64
    go true e f = no_fault f
    go false e f = omega (arith, ltb-false)

-- what is not barred: no 4D, 4E or 4F is given beside a null name
pub not_barred : (t : Given) → own_fault t ≡ None → barred t.slots ≡ false
unfolding own_fault
not_barred t = go (known_type t.media_type) (barred t.slots)
  where
    go : (a b : Bool) → ◌≡◌ {A = Option Fault} (pick a (pick b (Some fault.Barred) (pick (given 0x4D t.slots) (pick (given 0x4F t.slots) (Some fault.Twice) None) None)) (Some fault.Barred)) None → b ≡ false
    go true true e = no_fault e
    go true false e = refl
    go false b e = no_fault e

pub hidden_none : (ss : List Slot) → barred ss ≡ false → null_name ss ≡ true → (given 0x4D ss ≡ false) × (given 0x4E ss ≡ false) × (given 0x4F ss ≡ false)
unfolding barred
hidden_none ss = go (null_name ss) (given 0x4D ss) (given 0x4E ss) (given 0x4F ss)
  where
    go : (n a b c : Bool) → pick n (pick a true (pick b true c)) false ≡ false → n ≡ true → (a ≡ false) × (b ≡ false) × (c ≡ false)
    go true true b c e f = never e
    go true false true c e f = never e
    go true false false true e f = never e
    go true false false false e f = (refl, refl, refl)
    go false a b c e f = never (sym f)

pub not_both : (t : Given) → own_fault t ≡ None → given 0x4F t.slots ≡ true → given 0x4D t.slots ≡ false
unfolding own_fault
not_both t = go (known_type t.media_type) (barred t.slots) (given 0x4D t.slots) (given 0x4F t.slots)
  where
    go : (a b x y : Bool) → ◌≡◌ {A = Option Fault} (pick a (pick b (Some fault.Barred) (pick x (pick y (Some fault.Twice) None) None)) (Some fault.Barred)) None → y ≡ true → x ≡ false
    go true true x y e f = no_fault e
    go true false true true e f = no_fault e
    go true false true false e f = absurd (let w : ◌≡◌ {A = ℕ} 0 1 = cc in omega arith)
    go true false false y e f = refl
    go false b x y e f = no_fault e

pub id_fresh : (ids : List ℕ) (id : ℕ) → id_fault ids id ≡ None → has id ids ≡ false
unfolding id_fault
id_fresh ids id = go (ltb 63 id) (has id ids)
  where
    go : (a b : Bool) → ◌≡◌ {A = Option Fault} (pick a (Some fault.Barred) (pick b (Some fault.Twice) None)) None → b ≡ false
    go true b e = no_fault e
    go false true e = no_fault e
    go false false e = refl

pub tracks_clean : (text : List ℕ) (t : Given) (ts : List Given) → tracks_fault text (t ∷ ts) ≡ None
    → (own_fault t ≡ None) × (slots_fault text t.slots ≡ None) × (tracks_fault text ts ≡ None)
unfolding tracks_fault
tracks_clean text t ts h =
    let a = none_graver (graver (own_fault t) (slots_fault text t.slots)) (tracks_fault text ts) h in
    let b = none_graver (own_fault t) (slots_fault text t.slots) a.0 in
    (b.0, b.1, a.1)

-- an input without fault
pub record Clean (text ms ts : List ℕ) : Type 0 where
  pub words : length ms ≡ 18
  pub whole : length ts % 23 ≡ 0
  pub material : slots_fault text (material_slots ms) ≡ None
  pub tracks : tracks_fault text (tracks_given ts) ≡ None
  pub ids : ids_fault [] (tracks_given ts) ≡ None

pub clean : (text ms ts : List ℕ) → fault_of text ms ts ≡ None → Clean text ms ts
unfolding fault_of
clean text ms ts = go (eqb (length ms) 18) refl (eqb (length ts % 23) 0) refl
  where
    a : Option Fault
    a = slots_fault text (material_slots ms)

    b : Option Fault
    b = tracks_fault text (tracks_given ts)

    d : Option Fault
    d = ids_fault [] (tracks_given ts)

    go : (x : Bool) → eqb (length ms) 18 ≡ x → (y : Bool) → eqb (length ts % 23) 0 ≡ y → ◌≡◌ {A = Option Fault} (pick x (pick y (graver (graver a b) d) (Some fault.Barred)) (Some fault.Barred)) None → Clean text ms ts
    go true e true f h =
        let g = none_graver (graver a b) d h in
        let k = none_graver a b g.0 in
        record { words = eqb-true (length ms) 18 e; whole = eqb-true (length ts % 23) 0 f; material = k.0; tracks = k.1; ids = g.1 }
    go true e false f h = no_fault h
    go false e y f h = no_fault h

-- so there are 64 tracks at most: their IDs differ and are under 64
ids_apart : (ids : List ℕ) (ts : List Given) → ids_fault ids ts ≡ None → Narrow ts → Fresh ids (map (λ (t : Given). t.id) ts) × Between 0 64 (map (λ (t : Given). t.id) ts)
unfolding ids_fault
ids_apart ids [] h n = (tt, tt)
ids_apart ids (t ∷ ts) h n =
    let g = none_graver (id_fault ids t.id) (ids_fault (t.id ∷ ids) ts) h in
    let r = ids_apart (t.id ∷ ids) ts g.1 n.1 in
    ((id_fresh ids t.id g.0, r.0), (omega arith, n.0, r.1))

pub most_64 : (ts : List Given) → ids_fault [] ts ≡ None → length ts ≤ 64
most_64 ts h =
    let a = ids_apart [] ts h (ids_narrow [] ts h) in
    omega (arith, few 0 64 (map (λ (t : Given). t.id) ts) a.0 a.1, length-map ts (λ (t : Given). t.id))
