-- One pass over a lent book, a record at a time: what is left to do from record n on.
use Prim.Native.Nat.{ℕ, zero, suc, ◌+◌, ◌-◌, ◌*◌, ◌/◌, ◌%◌, ◌^◌, ◌<◌, ◌≤◌}
use mathlib.Core.Path.{◌≡◌, refl, sym, ◌∙◌}
use mathlib.Core.Bool.{Bool, true, false}
use mathlib.Core.List.{List}
use native.Mathlib.Omega.{arith}
use lib.ListN.{length, get_or}
use borrow.Author.Tests.{lt-ltb, le-ltb, eq-eqb, ne_eqb, ltb-true, ltb-false, eqb-true, eqb-false, le-leb, lt-leb}
use lib.Dec.{eqb, ltb}
use Rattle.std.specs.Prelude.{Result, Ok, Err, Some, None}
use Rattle.plate.specs.Choice.{pick}
use Rattle.plate.specs.Ended.{none}
use Rattle.plate.specs.Plate.{refusal}
use Rattle.plate.proofs.Tests.{no_choice}
use Rattle.number.specs.Number.{le}
use Rattle.number.proofs.Laws.{Bytes, le_four}
use Rattle.media_type.specs.MediaType.{known_type}
use Rattle.media_type.proofs.Laws.{known_over, known_under}
use Rattle.field.specs.Field.{has_mark, is_even, is_field}
use Rattle.field.proofs.Laws.{other_half, own_half}
use Rattle.book.specs.Book.{on_slot, Slot, broken, holds, said_at, record_at, book_from, book_of, sound_type, rises_at, stands, judge_book, bad, good, is_of, first_in, or_not_there, nothing, there, if_good, lookup_of}
use Rattle.book.specs.Inside.{book_at, plain_head, doubled_head, sound_head, field_told, verdict_from}
use Rattle.book.specs.declared.Entry.{Entry}
use Rattle.plate.specs.declared.Refusal.{Refusal}
use Rattle.plate.specs.declared.Fault.TheVariants as fault

-- enough fuel is enough
fuel : (s : List ℕ) (f g at : ℕ) → length s - at < f → length s - at < g → book_from s f at ≡ book_from s g at
unfolding book_from
fuel s zero g at h k = absurd (omega arith)
fuel s (suc f) zero at h k = absurd (omega arith)
fuel s (suc f) (suc g) at h k = go (fuel s f g (at + 16)) (ltb at (length s)) refl
  where
    go : (length s - (at + 16) < f → length s - (at + 16) < g → book_from s f (at + 16) ≡ book_from s g (at + 16)) → (b : Bool) → ltb at (length s) ≡ b
        → pick b (on_slot (book_from s f (at + 16)) (record_at s at)) (none true) ≡ pick b (on_slot (book_from s g (at + 16)) (record_at s at)) (none true)
    go again true q = let l = ltb-true at (length s) q in rw (again (omega arith) (omega arith))
    go again false q = refl

-- what stands as record n may follow the last
abbrev pub standing : ℕ → ℕ → Slot → Bool
standing n last broken = false
standing n last (holds e) = stands n last e

module _ (s : List ℕ) (n : ℕ) where
  pub out : length s ≤ n * 16 → book_at s n ≡ none true
  unfolding book_from
  out h = rw (le-ltb (n * 16) (length s) h)

  pub turn : n * 16 < length s → book_at s n ≡ on_slot (book_at s (n + 1)) (record_at s (n * 16))
  unfolding book_from
  turn h =
      let e : n * 16 + 16 ≡ (n + 1) * 16 = omega arith in
      rw (lt-ltb (n * 16) (length s) h, fuel s (length s) (suc (length s)) (n * 16 + 16) (omega arith) (omega arith), e)

-- two bytes, tested one by one or as one number
pair : (a b : ℕ) → a < 256 → eqb (a + b * 0x100) 0x5847 ≡ pick (eqb a 0x47) (eqb b 0x58) false
pair a b h = go (eqb a 0x47) (eqb b 0x58) refl refl
  where
    go : (p q : Bool) → eqb a 0x47 ≡ p → eqb b 0x58 ≡ q → eqb (a + b * 0x100) 0x5847 ≡ pick p q false
    go true true x y = eq-eqb (a + b * 0x100) 0x5847 (omega (arith, eqb-true a 0x47 x, eqb-true b 0x58 y))
    go true false x y = ne_eqb (a + b * 0x100) 0x5847 (λ z. eqb-false b 0x58 y (omega (arith, eqb-true a 0x47 x, z)))
    go false q x y = ne_eqb (a + b * 0x100) 0x5847 (λ z. eqb-false a 0x47 x (omega (arith, z)))

shape : (p q t k r : Bool) (n last : ℕ) (e : Entry) → stands n last e ≡ pick t false (pick k r false)
    → standing n last (pick p (pick q (holds e) broken) broken) ≡ pick (pick (pick p q false) (pick t false k) false) r false
shape false q t k r n last e h = refl
shape true false t k r n last e h = refl
shape true true true k r n last e h = h
shape true true false true r n last e h = h
shape true true false false r n last e h = h

-- what is no record has no entry; of a record the entry is what its bytes say
module _ (n last : ℕ) (e : Entry) where
  kept : (p q r : Bool) → standing n last (pick p broken (pick q (pick r (holds e) broken) broken)) ≡ true → pick p broken (pick q (pick r (holds e) broken) broken) ≡ holds e
  kept false true true h = refl
  kept true q r h = absurd (let z : ◌≡◌ {A = ℕ} 0 1 = cc in omega arith)
  kept false false r h = absurd (let z : ◌≡◌ {A = ℕ} 0 1 = cc in omega arith)
  kept false true false h = absurd (let z : ◌≡◌ {A = ℕ} 0 1 = cc in omega arith)

-- the type byte of a first word
word_type : (s : List ℕ) → Bytes s → (at : ℕ) → le s at 4 / 0x1000000 ≡ get_or s (at + 3) 0
word_type s g at = let w = le_four s at _ _ _ _ refl refl refl refl in omega (arith, w, g at, g (at + 1), g (at + 2), g (at + 3))

as_is : (b : Bool) → b ≡ pick b true false
as_is true = refl
as_is false = refl

wraps : (x : ℕ) → 0x4000 ≤ x → (x - 0x4000) % 0x100 ≡ x % 0x100
wraps x h = omega arith

four : (p q t e : Bool) → pick p (pick q false (pick t e false)) false ≡ pick (pick p (pick q false false) false) true (pick e (pick p (pick q false t) false) false)
four true true t true = refl
four true true t false = refl
four true false true true = refl
four true false true false = refl
four true false false true = refl
four true false false false = refl
four false q t true = refl
four false q t false = refl

-- a word under 0x40000000 has no mark in it, and from there on it has, with the rest of it as it was
module _ (h number : ℕ) (small : h < 2 ^ 32) where
  abbrev low : ℕ
  low = h - 0x40000000

  unmarked : h < 0x40000000 → has_mark (h / 0x1000000) ≡ false
  unfolding has_mark
  unmarked k = lt-leb 64 (h / 0x1000000) (omega arith)

  has_marked : 0x40000000 ≤ h → has_mark (h / 0x1000000) ≡ true
  unfolding has_mark
  has_marked k = le-leb 64 (h / 0x1000000) (omega arith)

  -- a known type is under the mark
  plain_low : plain_head h ≡ true → h < 0x40000000
  unfolding plain_head
  plain_low = go (eqb (h % 0x10000) 0x5847) (ltb 63 (h / 0x10000 % 0x100))
    where
      go : (p q : Bool) → pick p (pick q false (known_type (h / 0x1000000))) false ≡ true → h < 0x40000000
      go true false e = omega (arith, known_under (h / 0x1000000) e)
      go true true e = absurd (let z : ◌≡◌ {A = ℕ} 0 1 = cc in omega arith)
      go false q e = absurd (let z : ◌≡◌ {A = ℕ} 0 1 = cc in omega arith)

  doubled_high : doubled_head h number ≡ true → (0x40000000 ≤ h) × (is_even number ≡ true)
  unfolding doubled_head
  doubled_high = go (ltb h 0x40000000) refl (is_even number)
    where
      go : (b : Bool) → ltb h 0x40000000 ≡ b → (e : Bool) → pick b false (pick e (plain_head low) false) ≡ true → (0x40000000 ≤ h) × (e ≡ true)
      go true q e f = absurd (let z : ◌≡◌ {A = ℕ} 0 1 = cc in omega arith)
      go false q true f = (ltb-false h 0x40000000 q, refl)
      go false q false f = absurd (let z : ◌≡◌ {A = ℕ} 0 1 = cc in omega arith)

  not_known : 0x40000000 ≤ h → known_type (h / 0x1000000) ≡ false
  not_known k = known_over (h / 0x1000000) (omega arith)

  -- a good first word is a plain one, or one with the mark
  pub sound_either : sound_head h number ≡ pick (plain_head h) true (doubled_head h number)
  unfolding sound_head plain_head doubled_head sound_type
  sound_either = go (ltb h 0x40000000) refl
    where
      marks : Bool
      marks = eqb (h % 0x10000) 0x5847

      far : Bool
      far = ltb 63 (h / 0x10000 % 0x100)

      go : (b : Bool) → ltb h 0x40000000 ≡ b
          → pick marks (pick far false (pick (has_mark (h / 0x1000000)) (pick (known_type (h / 0x1000000 - 64)) (is_even number) false) (known_type (h / 0x1000000)))) false
          ≡ pick (pick marks (pick far false (known_type (h / 0x1000000))) false) true
          (pick b false (pick (is_even number) (pick (eqb (low % 0x10000) 0x5847) (pick (ltb 63 (low / 0x10000 % 0x100)) false (known_type (low / 0x1000000))) false) false))
      go true q = rw (unmarked (ltb-true h 0x40000000 q)) (as_is (pick marks (pick far false (known_type (h / 0x1000000))) false))
      go false q =
          let k = ltb-false h 0x40000000 q in
          let a : low % 0x10000 ≡ h % 0x10000 = omega (arith, k) in
          let y : low / 0x10000 ≡ h / 0x10000 - 0x4000 = omega (arith, k) in
          let x : 0x4000 ≤ h / 0x10000 = omega (arith, k) in
          let b : low / 0x10000 % 0x100 ≡ h / 0x10000 % 0x100 = rw y (wraps (h / 0x10000) x) in
          let d : low / 0x1000000 ≡ h / 0x1000000 - 64 = omega (arith, k) in
          rw (has_marked k, a, b, d, not_known k) (four marks far (known_type (h / 0x1000000 - 64)) (is_even number))

  module _ (field : ℕ) where
    plain_of : plain_head h ≡ true → is_field (has_mark (h / 0x1000000)) number field ≡ eqb number field
    unfolding is_field
    plain_of a = rw (unmarked (plain_low a)) (sym (as_is (eqb number field)))

    doubled_of : doubled_head h number ≡ true → is_field (has_mark (h / 0x1000000)) number field ≡ eqb (number / 2) (field / 2)
    doubled_of b = let w = doubled_high b in rw (has_marked w.0) (go (eqb (number / 2) (field / 2)) refl w.1)
      where
        go : (r : Bool) → eqb (number / 2) (field / 2) ≡ r → is_even number ≡ true → is_field true number field ≡ r
        go true q e = own_half number field e (eqb-true (number / 2) (field / 2) q)
        go false q e = other_half true number field (λ _. e) (eqb-false (number / 2) (field / 2) q)

    -- what is told: whether the first word is good, and whether the record is of the field
    pub none_told : field_told h number field ≡ None → sound_head h number ≡ false
    unfolding field_told
    none_told e = sound_either ∙ go (plain_head h) (doubled_head h number) e
      where
        go : (a b : Bool) → pick a (Some (eqb number field)) (pick b (Some (eqb (number / 2) (field / 2))) None) ≡ None → pick a true b ≡ false
        go true b e = absurd (let z : ◌≡◌ {A = ℕ} 0 1 = cc in omega arith)
        go false true e = absurd (let z : ◌≡◌ {A = ℕ} 0 1 = cc in omega arith)
        go false false e = refl

    pub some_told : (near : Bool) → field_told h number field ≡ Some near → (sound_head h number ≡ true) × (is_field (has_mark (h / 0x1000000)) number field ≡ near)
    unfolding field_told
    some_told near e = go (plain_head h) refl (doubled_head h number) refl e
      where
        go : (a : Bool) → plain_head h ≡ a → (b : Bool) → doubled_head h number ≡ b
            → pick a (Some (eqb number field)) (pick b (Some (eqb (number / 2) (field / 2))) None) ≡ Some near → (sound_head h number ≡ true) × (is_field (has_mark (h / 0x1000000)) number field ≡ near)
        go true i b j e = (sound_either ∙ rw i, plain_of i ∙ cc)
        go false i true j e = (sound_either ∙ rw (i, j), doubled_of j ∙ cc)
        go false i false j e = absurd (let z : ◌≡◌ {A = ℕ} 0 1 = cc in omega arith)

-- by its first word, its number and its offset: whether a record that is there may stand as record n
pub seen : (s : List ℕ) → Bytes s → (at n last : ℕ) → at + 16 ≤ length s
    → standing n last (record_at s at) ≡ pick (sound_head (le s at 4) (le s (at + 4) 4)) (rises_at n last (le s (at + 8) 8)) false
unfolding record_at sound_head stands
seen s g at n last room =
    let w = le_four s at _ _ _ _ refl refl refl refl in
    let a : le s at 4 % 0x10000 ≡ get_or s at 0 + get_or s (at + 1) 0 * 0x100 = omega (arith, w, g at, g (at + 1), g (at + 2), g (at + 3)) in
    let b : le s at 4 / 0x10000 ≡ get_or s (at + 2) 0 + get_or s (at + 3) 0 * 0x100 = omega (arith, w, g at, g (at + 1), g (at + 2), g (at + 3)) in
    let c : (get_or s (at + 2) 0 + get_or s (at + 3) 0 * 0x100) % 0x100 ≡ get_or s (at + 2) 0 = omega (arith, g (at + 2)) in
    rw (le-ltb (length s - at) 16 (omega arith), a, b, c, word_type s g at, pair (get_or s at 0) (get_or s (at + 1) 0) (g at).fits)
    (shape
    (eqb (get_or s at 0) 0x47)
    (eqb (get_or s (at + 1) 0) 0x58)
    (ltb 63 (get_or s (at + 2) 0))
    (sound_type (get_or s (at + 3) 0) (le s (at + 4) 4))
    (rises_at n last (le s (at + 8) 8))
    n
    last
    (said_at s at)
    refl)

module _ (s : List ℕ) (n last : ℕ) where
  -- behind the last record: nothing, or too few bytes
  pub at_end_lem : length s ≤ n * 16 → verdict_from s n last ≡ good
  unfolding judge_book
  at_end_lem h = rw (out s n h)

  pub none_at_end : (track field : ℕ) → length s ≤ n * 16 → first_in track field (book_at s n).list ≡ nothing
  unfolding first_in
  none_at_end track field h = rw (out s n h)

  module _ (h : n * 16 < length s) where
    pub no_good : standing n last (record_at s (n * 16)) ≡ false → verdict_from s n last ≡ bad n
    unfolding judge_book
    no_good f = rw (turn s n h) (go (record_at s (n * 16)) f)
      where
        go : (x : Slot) → standing n last x ≡ false → judge_book n last (on_slot (book_at s (n + 1)) x).list (on_slot (book_at s (n + 1)) x).end ≡ bad n
        go broken f = refl
        go (holds e) f = rw f

    pub torn : length s < n * 16 + 16 → verdict_from s n last ≡ bad n
    unfolding record_at
    torn k = no_good (rw (lt-ltb (length s - n * 16) 16 (omega arith)))

    module _ (f : standing n last (record_at s (n * 16)) ≡ true) where
      here : record_at s (n * 16) ≡ holds (said_at s (n * 16))
      unfolding record_at
      here = kept n last (said_at s (n * 16)) (ltb (length s - n * 16) 16) (eqb (get_or s (n * 16) 0) 0x47) (eqb (get_or s (n * 16 + 1) 0) 0x58) f

      pub next : verdict_from s n last ≡ verdict_from s (n + 1) (le s (n * 16 + 8) 8)
      unfolding judge_book
      next = let q : stands n last (said_at s (n * 16)) ≡ true = rw here at f in rw (turn s n h, here, q)

      pub first : (track field : ℕ) → first_in track field (book_at s n).list
          ≡ pick (is_of track field (said_at s (n * 16))) (there (le s (n * 16 + 8) 8)) (first_in track field (book_at s (n + 1)).list)
      unfolding first_in
      first track field = rw (turn s n h, here)

-- a turn at a record that is there
module _ (s : List ℕ) (g : Bytes s) (n last : ℕ) (room : n * 16 + 16 ≤ length s) where
  pub is_bad : (a : Result ℕ Refusal) → pick (sound_head (le s (n * 16) 4) (le s (n * 16 + 4) 4)) (rises_at n last (le s (n * 16 + 8) 8)) false ≡ false
      → Err (refusal fault.Book n) ≡ if_good (verdict_from s n last) a
  is_bad a q = rw (no_good s n last (omega arith) (seen s g (n * 16) n last room ∙ q))

  pub may_stand : sound_head (le s (n * 16) 4) (le s (n * 16 + 4) 4) ≡ true → rises_at n last (le s (n * 16 + 8) 8) ≡ true → standing n last (record_at s (n * 16)) ≡ true
  may_stand p q = seen s g (n * 16) n last room ∙ rw (p, q)

-- what is left to do from record n on, with none found yet
abbrev pub answer_from : List ℕ → ℕ → ℕ → ℕ → ℕ → Result ℕ Refusal
answer_from s track field n last = if_good (verdict_from s n last) (or_not_there (first_in track field (book_at s n).list))

pub begin : (s : List ℕ) (track field : ℕ) → lookup_of s track field ≡ answer_from s track field 0 0
unfolding lookup_of book_of
begin s track field = refl

-- behind the last whole record: nothing, or a broken tail
pub on_end : (s : List ℕ) (n last : ℕ) (a b : Result ℕ Refusal) → n ≡ length s / 16 → (length s ≤ n * 16 → a ≡ b)
    → pick (eqb (length s % 16) 0) a (Err (refusal fault.Book n)) ≡ if_good (verdict_from s n last) b
on_end s n last a b e f = go (eqb (length s % 16) 0) refl
  where
    go : (x : Bool) → eqb (length s % 16) 0 ≡ x → pick x a (Err (refusal fault.Book n)) ≡ if_good (verdict_from s n last) b
    go true q = let z = eqb-true (length s % 16) 0 q in rw (at_end_lem s n last (omega arith)) (f (omega arith))
    go false q = let z = eqb-false (length s % 16) 0 q in rw (torn s n last (omega arith) (omega arith))

module _ (s : List ℕ) (track field n last : ℕ) (room : n * 16 + 16 ≤ length s) where
  pub on_next : standing n last (record_at s (n * 16)) ≡ true → is_of track field (said_at s (n * 16)) ≡ false
      → answer_from s track field n last ≡ answer_from s track field (n + 1) (le s (n * 16 + 8) 8)
  on_next f q = rw (next s n last (omega arith) f, first s n last (omega arith) f track field, q)

  pub on_found : is_of track field (said_at s (n * 16)) ≡ true → if_good (verdict_from s n last) (Ok (le s (n * 16 + 8) 8)) ≡ answer_from s track field n last
  on_found q = go (standing n last (record_at s (n * 16))) refl
    where
      go : (b : Bool) → standing n last (record_at s (n * 16)) ≡ b → if_good (verdict_from s n last) (Ok (le s (n * 16 + 8) 8)) ≡ answer_from s track field n last
      go true f = rw (first s n last (omega arith) f track field, q)
      go false f = rw (no_good s n last (omega arith) f)

-- whether a record is of a track and a field, by its first word
module _ (s : List ℕ) (g : Bytes s) (at track field : ℕ) where
  pub not_field : is_field (has_mark (le s at 4 / 0x1000000)) (le s (at + 4) 4) field ≡ false → is_of track field (said_at s at) ≡ false
  unfolding is_of
  not_field e = rw (← word_type s g at, e) (no_choice (eqb (get_or s (at + 2) 0) track) false)

  pub not_track : (get_or s (at + 2) 0 ≡ track → ⊥) → is_of track field (said_at s at) ≡ false
  unfolding is_of
  not_track h = rw (ne_eqb (get_or s (at + 2) 0) track h)

  pub both_are : is_field (has_mark (le s at 4 / 0x1000000)) (le s (at + 4) 4) field ≡ true → get_or s (at + 2) 0 ≡ track → is_of track field (said_at s at) ≡ true
  unfolding is_of
  both_are e h = rw (eq-eqb (get_or s (at + 2) 0) track h, ← word_type s g at) e
