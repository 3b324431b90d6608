-- What the lists of a written map say is what was given.
use Prim.Native.Nat.{ℕ, zero, suc, ◌+◌, ◌*◌, ◌/◌, ◌<◌, ◌^◌, ◌≤◌}
use mathlib.Core.Path.{◌≡◌, refl, sym, ◌∙◌, ap}
use mathlib.Core.Bool.{Bool, true, false}
use mathlib.Core.List.{List, [], ◌∷◌, ◌++◌, map, append-nil}
use native.Mathlib.Omega.{arith}
use native.Mathlib.Nat.{add-sub_cancel_left}
use borrow.Author.Tests.{eq-eqb, ne_eqb, eqb-true, leb-true}
use lib.ListN.{length, get_or, take, drop, length-append, length-drop}
use lib.Seq.{length-take-le}
use lib.Dec.{eqb}
use Rattle.std.specs.Prelude.{Some, None}
use Rattle.plate.specs.Choice.{pick}
use Rattle.number.specs.Number.{be, be_bytes}
use Rattle.number.proofs.Laws.{be_back, length-be_bytes}
use Rattle.map_items.specs.Find.{Found, missing, found, find, part_of}
use Rattle.map_items.specs.Judge.{has}
use Rattle.map_items.proofs.Anywhere.{never}
use Rattle.map_answer.specs.Answer as answer
use Rattle.map_answer.specs.Answer.{allowed, code_of, is_null}
use Rattle.map_answer.specs.declared.Code.TheVariants as code
use Rattle.map_tracks.specs.Tracks.{is_listed}
use Rattle.map.specs.Encode.{described}
use Rattle.map.specs.View.{Held, nothing, bytes}
use Rattle.map.specs.Parts.{listed_of}
use Rattle.map.specs.Inside.{held_of, material_view_of_items, track_view_of_parts, view_of_parts}
use Rattle.map.proofs.ViewOfParts.{same_value, same_null}
use Rattle.map_given.specs.declared.Slot.{Slot}
use Rattle.map_given.specs.Given.{slot_at, slots, material_slots, Given, track_at, tracks_from}
use Rattle.map_given.specs.Faults.{is_text, is_eight, is_code, code_fits, fits, slot_fault, slots_fault, given, null_name, own_fault, tracks_fault}
use Rattle.map_writer.specs.Write.{slot_value, items_of, parts_of_track, parts_given}
use Rattle.map_writer.specs.ViewGiven.{text_given, eight_given, value_given, code_given, material_view_given, track_view_given, track_views_given, view_given}
use Rattle.map_given.proofs.Laws.{allowed_over, text_fits, gives_4_d, gives_4_e, gives_4_f, names_null}
use Rattle.map_given.proofs.Clean.{present_fits, eight_fits, own_known, tracks_clean, Clean, slot_of, hidden_none, not_barred}

-- the item of a slot, if it is given
unfoldable pub slot_found : List ℕ → Slot → Found
slot_found text s = pick (eqb s.mark 1) (found 0 (slot_value text s)) missing

module _ (text ws : List ℕ) where
  -- no later slot has an earlier tag
  later : (n at t tag q : ℕ) → tag < t → find tag q (items_of text (slots n ws at t)) ≡ missing
  unfolding slots items_of find
  later zero at t tag q h = refl
  later (suc n) at t tag q h = go (eqb (get_or ws at 0) 1) (λ p. later n (at + 3) (t + 1) tag p (omega arith))
    where
      go : (b : Bool) → ((p : ℕ) → find tag p (items_of text (slots n ws (at + 3) (t + 1))) ≡ missing)
          → find tag q (pick b (record { tag = t; value = slot_value text (slot_at ws at t) } ∷ items_of text (slots n ws (at + 3) (t + 1))) (items_of text (slots n ws (at + 3) (t + 1)))) ≡ missing
      go true f = simp (ne_eqb t tag (λ e. omega arith)) (f (q + 2 + length (slot_value text (slot_at ws at t))))
      go false f = f q

  -- a tag that is not given is not found
  pub not_given_missing : (n at t tag q : ℕ) → given tag (slots n ws at t) ≡ false → find tag q (items_of text (slots n ws at t)) ≡ missing
  unfolding slots items_of find given
  not_given_missing zero at t tag q h = refl
  not_given_missing (suc n) at t tag q h =
      go (eqb t tag) refl (eqb (get_or ws at 0) 1) h (λ e p. later n (at + 3) (t + 1) tag p (omega (arith, eqb-true t tag e))) (λ p. not_given_missing n (at + 3) (t + 1) tag p)
    where
      go : (x : Bool) → eqb t tag ≡ x → (b : Bool) → pick x b (given tag (slots n ws (at + 3) (t + 1))) ≡ false
          → (eqb t tag ≡ true → (p : ℕ) → find tag p (items_of text (slots n ws (at + 3) (t + 1))) ≡ missing)
          → ((p : ℕ) → given tag (slots n ws (at + 3) (t + 1)) ≡ false → find tag p (items_of text (slots n ws (at + 3) (t + 1))) ≡ missing)
          → find tag q (pick b (record { tag = t; value = slot_value text (slot_at ws at t) } ∷ items_of text (slots n ws (at + 3) (t + 1))) (items_of text (slots n ws (at + 3) (t + 1)))) ≡ missing
      go true e true h here there = never h
      go true e false h here there = here e q
      go false e true h here there = rw e (there (q + 2 + length (slot_value text (slot_at ws at t))) h)
      go false e false h here there = there q h

  -- and one that is given is
  pub given_found : (n at t tag q : ℕ) → given tag (slots n ws at t) ≡ true → find tag q (items_of text (slots n ws at t)) ≡ missing → ⊥
  unfolding slots items_of find given
  given_found zero at t tag q h m = never (sym h)
  given_found (suc n) at t tag q h m = go (eqb t tag) refl (eqb (get_or ws at 0) 1) h (λ p. given_found n (at + 3) (t + 1) tag p) m
    where
      go : (x : Bool) → eqb t tag ≡ x → (b : Bool) → pick x b (given tag (slots n ws (at + 3) (t + 1))) ≡ true
          → ((p : ℕ) → given tag (slots n ws (at + 3) (t + 1)) ≡ true → find tag p (items_of text (slots n ws (at + 3) (t + 1))) ≡ missing → ⊥)
          → find tag q (pick b (record { tag = t; value = slot_value text (slot_at ws at t) } ∷ items_of text (slots n ws (at + 3) (t + 1))) (items_of text (slots n ws (at + 3) (t + 1)))) ≡ missing
          → ⊥
      go true e true h there m = absurd (let k = rw e at m in let z : ◌≡◌ {A = ℕ} 0 1 = cc in omega arith)
      go true e false h there m = never (sym h)
      go false e true h there m = there (q + 2 + length (slot_value text (slot_at ws at t))) h (rw e at m)
      go false e false h there m = there q h m

  -- the k-th slot is found by its tag
  pub held_slot : (k n at t tag place q : ℕ) → k < n → tag ≡ t + k → place ≡ at + 3 * k
      → held_of (find tag q (items_of text (slots n ws at t))) ≡ held_of (slot_found text (slot_at ws place tag))
  unfolding slots items_of find held_of slot_found
  held_slot k zero at t tag place q h e f = absurd (omega arith)
  held_slot zero (suc n) at t tag place q h e f =
      let a : tag ≡ t = omega arith in
      let b : place ≡ at = omega arith in
      rw (a, b) (go (eqb (get_or ws at 0) 1) (later n (at + 3) (t + 1) t q (omega arith)))
    where
      go : (b : Bool) → find t q (items_of text (slots n ws (at + 3) (t + 1))) ≡ missing
          → held_of (find t q (pick b (record { tag = t; value = slot_value text (slot_at ws at t) } ∷ items_of text (slots n ws (at + 3) (t + 1))) (items_of text (slots n ws (at + 3) (t + 1)))))
          ≡ held_of (pick b (found 0 (slot_value text (slot_at ws at t))) missing)
      go true m = simp (eq-eqb t t refl)
      go false m = rw m
  held_slot (suc k) (suc n) at t tag place q h e f =
      go (eqb (get_or ws at 0) 1) (λ p. held_slot k n (at + 3) (t + 1) tag place p (omega arith) (omega arith) (omega arith))
    where
      go : (b : Bool) → ((p : ℕ) → held_of (find tag p (items_of text (slots n ws (at + 3) (t + 1)))) ≡ held_of (slot_found text (slot_at ws place tag)))
          → held_of (find tag q (pick b (record { tag = t; value = slot_value text (slot_at ws at t) } ∷ items_of text (slots n ws (at + 3) (t + 1))) (items_of text (slots n ws (at + 3) (t + 1)))))
          ≡ held_of (slot_found text (slot_at ws place tag))
      go true m = simp (ne_eqb t tag (λ z. omega arith)) (m (q + 2 + length (slot_value text (slot_at ws at t))))
      go false m = m q

-- a number of 32 bits reads back
number_read : (v : ℕ) → v < 256 ^ 4 → answer.value_of (found 0 (be_bytes 4 v)) ≡ Some v
unfolding answer.value_of
number_read v h =
    let b : be (be_bytes 4 v) 0 4 ≡ v = rw append-nil at (be_back [] 4 v [] h) in
    rw (length-be_bytes 4 v, b)

-- a text and its 00
text_long : (text : List ℕ) (s : Slot) → s.first + s.second ≤ length text → length (take s.second (drop s.first text) ++ (0 ∷ [])) ≡ s.second + 1
text_long text s h =
    let v = take s.second (drop s.first text) in
    let l : length v ≡ s.second = length-take-le s.second (drop s.first text) (simp length-drop (omega arith)) in
    length-append v (0 ∷ []) ∙ omega arith

-- −1 and −2 in 64 bits are −1 and −2 in 32
minus_one : answer.value_of (found 0 (be_bytes 4 0xFFFFFFFFFFFFFFFF)) ≡ Some 0xFFFFFFFF
unfolding answer.value_of be be_bytes
minus_one = refl

minus_two : answer.value_of (found 0 (be_bytes 4 0xFFFFFFFFFFFFFFFE)) ≡ Some 0xFFFFFFFE
unfolding answer.value_of be be_bytes
minus_two = refl

one_is_null : (n : ℕ) → eqb (n + 1) 1 ≡ eqb n 0
one_is_null zero = refl
one_is_null (suc n) = ne_eqb (suc n + 1) 1 (λ z. omega arith) ∙ sym (ne_eqb (suc n) 0 (λ z. omega arith))

module _ (text : List ℕ) (s : Slot) where
  module _ (h : slot_fault text s ≡ None) where
    -- a text has its 00, and 4D its eight bytes
    pub text_told : is_text s.tag ≡ true → held_of (slot_found text s) ≡ text_given text s
    unfolding held_of slot_found text_given slot_value
    text_told f = go (eqb s.mark 1) refl
      where
        go : (b : Bool) → eqb s.mark 1 ≡ b
            → held_of (pick b (found 0 (pick (is_text s.tag) (take s.second (drop s.first text) ++ (0 ∷ [])) (pick (is_eight s.tag) (take s.second (drop s.first text)) (be_bytes 4 s.first)))) missing)
            ≡ pick b (bytes (s.second + 1) (take s.second (drop s.first text) ++ (0 ∷ []))) nothing
        go true e = rw (f, text_long text s (text_fits text s f (present_fits text s (eqb-true s.mark 1 e) h)).0)
        go false e = refl

    pub eight_told : is_text s.tag ≡ false → is_eight s.tag ≡ true → held_of (slot_found text s) ≡ eight_given text s
    unfolding held_of slot_found eight_given slot_value
    eight_told f g = go (eqb s.mark 1) refl
      where
        go : (b : Bool) → eqb s.mark 1 ≡ b
            → held_of (pick b (found 0 (pick (is_text s.tag) (take s.second (drop s.first text) ++ (0 ∷ [])) (pick (is_eight s.tag) (take s.second (drop s.first text)) (be_bytes 4 s.first)))) missing)
            ≡ pick b (bytes 8 (take 8 (drop s.first text))) nothing
        go true e =
            let a = eight_fits text s f g (present_fits text s (eqb-true s.mark 1 e) h) in
            let l : length (take 8 (drop s.first text)) ≡ 8 = length-take-le 8 (drop s.first text) (simp length-drop (omega (arith, a.1))) in
            rw (f, g, a.0, l)
        go false e = refl

    pub value_told : is_text s.tag ≡ false → is_eight s.tag ≡ false → is_code s.tag ≡ false → answer.value_of (slot_found text s) ≡ value_given s
    unfolding slot_found value_given slot_value answer.value_of fits
    value_told f g c = go (eqb s.mark 1) refl
      where
        go : (b : Bool) → eqb s.mark 1 ≡ b
            → answer.value_of (pick b (found 0 (pick (is_text s.tag) (take s.second (drop s.first text) ++ (0 ∷ [])) (pick (is_eight s.tag) (take s.second (drop s.first text)) (be_bytes 4 s.first)))) missing)
            ≡ pick b (Some s.first) None
        go true e =
            let a = rw (f, g, c) at (present_fits text s (eqb-true s.mark 1 e) h) in
            rw (f, g) (number_read s.first (let l = leb-true s.first 0xFFFFFFFF a in omega arith))
        go false e = refl

    pub code_told : is_text s.tag ≡ false → is_eight s.tag ≡ false → is_code s.tag ≡ true → code_of s.tag (answer.value_of (slot_found text s)) ≡ code_given s
    unfolding slot_found code_given slot_value answer.value_of fits code_fits code_of
    code_told f g c = go (eqb s.mark 1) refl
      where
        read : (x : Bool) → eqb s.first 0xFFFFFFFFFFFFFFFF ≡ x → (y : Bool) → eqb s.first 0xFFFFFFFFFFFFFFFE ≡ y
            → pick x true (pick y true (allowed s.tag s.first)) ≡ true
            → code_of s.tag (answer.value_of (found 0 (be_bytes 4 s.first)))
            ≡ pick x code.NotApplicable (pick y code.NotAvailable (code.Is s.first))
        read true p y q a = rw (eqb-true s.first 0xFFFFFFFFFFFFFFFF p, minus_one)
        read false p true q a = rw (eqb-true s.first 0xFFFFFFFFFFFFFFFE q, minus_two)
        read false p false q a =
            let l = allowed_over s.tag s.first a in
            rw (number_read s.first (omega arith)) (simp (ne_eqb s.first 0xFFFFFFFF (λ z. omega arith), ne_eqb s.first 0xFFFFFFFE (λ z. omega arith), a))

        go : (b : Bool) → eqb s.mark 1 ≡ b
            → code_of s.tag (answer.value_of (pick b (found 0 (pick (is_text s.tag) (take s.second (drop s.first text) ++ (0 ∷ [])) (pick (is_eight s.tag) (take s.second (drop s.first text)) (be_bytes 4 s.first)))) missing))
            ≡ pick b (pick (eqb s.first 0xFFFFFFFFFFFFFFFF) code.NotApplicable (pick (eqb s.first 0xFFFFFFFFFFFFFFFE) code.NotAvailable (code.Is s.first))) code.Absent
        go true e =
            let a = rw (f, g, c) at (present_fits text s (eqb-true s.mark 1 e) h) in
            rw (f, g) (read (eqb s.first 0xFFFFFFFFFFFFFFFF) refl (eqb s.first 0xFFFFFFFFFFFFFFFE) refl a)
        go false e = refl

    -- a null name is one of no byte before its 00
    pub null_told : is_text s.tag ≡ true → is_null (part_of (slot_found text s)) ≡ pick (eqb s.mark 1) (eqb s.second 0) false
    unfolding slot_found slot_value is_null
    null_told f = go (eqb s.mark 1) refl
      where
        go : (b : Bool) → eqb s.mark 1 ≡ b
            → is_null (part_of (pick b (found 0 (pick (is_text s.tag) (take s.second (drop s.first text) ++ (0 ∷ [])) (pick (is_eight s.tag) (take s.second (drop s.first text)) (be_bytes 4 s.first)))) missing))
            ≡ pick b (eqb s.second 0) false
        go true e =
            let a = text_fits text s f (present_fits text s (eqb-true s.mark 1 e) h) in
            rw (f, text_long text s a.0) (one_is_null s.second)
        go false e = refl

-- the material: each slot by its tag
module _ (text ms : List ℕ) (h : slots_fault text (material_slots ms) ≡ None) where
  material_held : (k tag place : ℕ) → k < 6 → tag ≡ 0x40 + k → place ≡ 3 * k
      → held_of (find tag 0 (items_of text (material_slots ms))) ≡ held_of (slot_found text (slot_at ms place tag))
  material_held k tag place l e f = held_slot text ms k 6 0 0x40 tag place 0 l e (omega arith)

  material_value : (k tag place : ℕ) → k < 6 → tag ≡ 0x40 + k → place ≡ 3 * k → is_text tag ≡ false → is_eight tag ≡ false → is_code tag ≡ false
      → answer.value_of (find tag 0 (items_of text (material_slots ms))) ≡ value_given (slot_at ms place tag)
  material_value k tag place l e f a b c =
      same_value _ _ (material_held k tag place l e f)
      ∙ value_told text (slot_at ms place tag) (slot_of text ms k 6 0 0x40 tag place l e (omega arith) h) a b c

  pub material_told : material_view_of_items (items_of text (material_slots ms)) ≡ material_view_given text ms
  unfolding material_view_of_items material_view_given is_text is_eight is_code has
  material_told =
      rw (
        material_held 0 0x40 0 (omega arith) refl refl ∙ text_told text (slot_at ms 0 0x40) (slot_of text ms 0 6 0 0x40 0x40 0 (omega arith) refl refl h) refl,
        material_value 1 0x41 3 (omega arith) refl refl refl refl refl,
        material_value 2 0x42 6 (omega arith) refl refl refl refl refl,
        material_value 3 0x43 9 (omega arith) refl refl refl refl refl,
        material_value 4 0x44 12 (omega arith) refl refl refl refl refl,
        material_value 5 0x45 15 (omega arith) refl refl refl refl refl,
      )

-- a track: each slot by its tag
module _ (text ts : List ℕ) (at : ℕ) (own : own_fault (track_at ts at) ≡ None) (h : slots_fault text (track_at ts at).slots ≡ None) where
  track_held : (k tag place : ℕ) → k < 7 → tag ≡ 0x4C + k → place ≡ at + 2 + 3 * k
      → held_of (find tag 0 (items_of text (track_at ts at).slots)) ≡ held_of (slot_found text (slot_at ts place tag))
  track_held k tag place l e f = held_slot text ts k 7 (at + 2) 0x4C tag place 0 l e f

  track_fault : (k tag place : ℕ) → k < 7 → tag ≡ 0x4C + k → place ≡ at + 2 + 3 * k → slot_fault text (slot_at ts place tag) ≡ None
  track_fault k tag place l e f = slot_of text ts k 7 (at + 2) 0x4C tag place l e f h

  track_code : (k tag place : ℕ) → k < 7 → tag ≡ 0x4C + k → place ≡ at + 2 + 3 * k → is_text tag ≡ false → is_eight tag ≡ false → is_code tag ≡ true
      → code_of tag (answer.value_of (find tag 0 (items_of text (track_at ts at).slots))) ≡ code_given (slot_at ts place tag)
  track_code k tag place l e f a b c =
      ap (code_of tag) (same_value _ _ (track_held k tag place l e f)) ∙ code_told text (slot_at ts place tag) (track_fault k tag place l e f) a b c

  pub null_is : is_null (part_of (find 0x4C 0 (items_of text (track_at ts at).slots))) ≡ null_name (track_at ts at).slots
  unfolding is_text has
  null_is =
      same_null _ _ (track_held 0 0x4C (at + 2) (omega arith) refl (omega arith))
      ∙ null_told text (slot_at ts (at + 2) 0x4C) (track_fault 0 0x4C (at + 2) (omega arith) refl (omega arith)) refl
      ∙ sym (names_null ts at)

  hidden : null_name (track_at ts at).slots ≡ true
      → (eqb (get_or ts (at + 5) 0) 1 ≡ false) × (eqb (get_or ts (at + 8) 0) 1 ≡ false) × (eqb (get_or ts (at + 11) 0) 1 ≡ false)
  hidden e =
      let n = hidden_none (track_at ts at).slots (not_barred (track_at ts at) own) e in
      (sym (gives_4_d ts at) ∙ n.0, sym (gives_4_e ts at) ∙ n.1, sym (gives_4_f ts at) ∙ n.2)

  version_is : pick (null_name (track_at ts at).slots) None (answer.value_of (find 0x4E 0 (items_of text (track_at ts at).slots))) ≡ value_given (slot_at ts (at + 8) 0x4E)
  unfolding is_text is_eight is_code has value_given
  version_is = go (null_name (track_at ts at).slots) refl
    where
      go : (b : Bool) → null_name (track_at ts at).slots ≡ b
          → pick b None (answer.value_of (find 0x4E 0 (items_of text (track_at ts at).slots))) ≡ pick (eqb (get_or ts (at + 8) 0) 1) (Some (get_or ts (at + 8 + 1) 0)) None
      go true e = rw (hidden e).1
      go false e =
          same_value _ _ (track_held 2 0x4E (at + 8) (omega arith) refl (omega arith))
          ∙ value_told text (slot_at ts (at + 8) 0x4E) (track_fault 2 0x4E (at + 8) (omega arith) refl (omega arith)) refl refl refl

  -- 4D and 4F, which a null name would hide
  hides : (h k : Held) (place : ℕ) → (null_name (track_at ts at).slots ≡ true → eqb (get_or ts place 0) 1 ≡ false) → h ≡ pick (eqb (get_or ts place 0) 1) k nothing
      → pick (null_name (track_at ts at).slots) nothing h ≡ pick (eqb (get_or ts place 0) 1) k nothing
  hides h k place n e = go (null_name (track_at ts at).slots) refl
    where
      go : (b : Bool) → null_name (track_at ts at).slots ≡ b → pick b nothing h ≡ pick (eqb (get_or ts place 0) 1) k nothing
      go true q = rw (n q)
      go false q = e

  aux_is : pick (null_name (track_at ts at).slots) nothing (held_of (find 0x4D 0 (items_of text (track_at ts at).slots))) ≡ eight_given text (slot_at ts (at + 5) 0x4D)
  unfolding eight_given is_text is_eight has
  aux_is =
      hides _ _ (at + 5) (λ e. (hidden e).0)
      (track_held 1 0x4D (at + 5) (omega arith) refl (omega arith) ∙ eight_told text (slot_at ts (at + 5) 0x4D) (track_fault 1 0x4D (at + 5) (omega arith) refl (omega arith)) refl refl)

  mpeg_is : pick (null_name (track_at ts at).slots) nothing (held_of (find 0x4F 0 (items_of text (track_at ts at).slots))) ≡ text_given text (slot_at ts (at + 11) 0x4F)
  unfolding text_given is_text has
  mpeg_is =
      hides _ _ (at + 11) (λ e. (hidden e).2)
      (track_held 3 0x4F (at + 11) (omega arith) refl (omega arith) ∙ text_told text (slot_at ts (at + 11) 0x4F) (track_fault 3 0x4F (at + 11) (omega arith) refl (omega arith)) refl)

  pub track_told : track_view_of_parts (parts_of_track text (track_at ts at)) ≡ track_view_given text ts at
  unfolding track_view_of_parts track_view_given is_text is_eight is_code has
  track_told =
      rw (
        add-sub_cancel_left,
        add-sub_cancel_left,
        null_is,
        version_is,
        aux_is,
        mpeg_is,
        track_held 0 0x4C (at + 2) (omega arith) refl (omega arith) ∙ text_told text (slot_at ts (at + 2) 0x4C) (track_fault 0 0x4C (at + 2) (omega arith) refl (omega arith)) refl,
        track_code 4 0x50 (at + 14) (omega arith) refl (omega arith) refl refl refl,
        track_code 5 0x51 (at + 17) (omega arith) refl (omega arith) refl refl refl,
        track_code 6 0x52 (at + 20) (omega arith) refl (omega arith) refl refl refl,
      )

-- every track is listed
listed_track : (text : List ℕ) (t : Given) → own_fault t ≡ None → is_listed (described (parts_of_track text t)) ≡ true
unfolding is_listed described
listed_track text t h = rw add-sub_cancel_left (own_known t h)

module _ (text ts : List ℕ) where
  pub tracks_told : (n at : ℕ) → tracks_fault text (tracks_from n ts at) ≡ None
      → (map track_view_of_parts (listed_of (map (parts_of_track text) (tracks_from n ts at))) ≡ track_views_given n text ts at) × (length (listed_of (map (parts_of_track text) (tracks_from n ts at))) ≡ n)
  unfolding tracks_from track_views_given listed_of
  tracks_told zero at h = (refl, refl)
  tracks_told (suc n) at h =
      let c = tracks_clean text (track_at ts at) (tracks_from n ts (at + 23)) h in
      let r = tracks_told n (at + 23) c.2 in
      rw (listed_track text (track_at ts at) c.0, track_told text ts at c.0 c.1, r.0, r.1) (refl, refl)

pub parts_view_given : (text ms ts : List ℕ) → Clean text ms ts → view_of_parts (parts_given text ms ts) ≡ view_given text ms ts
unfolding view_of_parts parts_given view_given
parts_view_given text ms ts c =
    let r = tracks_told text ts (length ts / 23) 0 c.tracks in
    rw (material_told text ms c.material, r.0, r.1)
