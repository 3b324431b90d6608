-- How the writer puts bytes together: run after run.
use Prim.Native.Nat.{ℕ, ◌+◌, ◌-◌, ◌*◌, ◌<◌, ◌≤◌}
use mathlib.Core.Path.{◌≡◌, refl, sym, ◌∙◌, ap}
use mathlib.Core.List.{List, [], ◌∷◌, ◌++◌, append_assoc, append-nil}
use native.Mathlib.Omega.{arith}
use native.Mathlib.Nat.{add-sub_cancel_left}
use lib.ListN.{replicate, length-replicate, length, set, take, drop, length-drop, length-append}
use lib.Seq.{sets, sets-eq, drop-drop, length-take-le}
use borrow.Rule.Slice.PartMut.{put_mid}
use Rattle.std.specs.Prelude.{None}
use Rattle.number.proofs.Stores.{sets_append}
use mathlib.Core.Bool.{Bool, true, false}
use lib.Dec.{eqb}
use borrow.Author.Tests.{eq-eqb, ne_eqb, eqb-true, eqb-false, le-ltb}
use Rattle.plate.specs.Choice.{pick}
use Rattle.number.specs.Number.{be_bytes}
use Rattle.number.proofs.Laws.{length-be_bytes}
use Rattle.map_items.specs.Items.{items_bytes}
use Rattle.map_items.specs.Judge.{has}
use Rattle.map_given.specs.declared.Slot.{Slot}
use Rattle.map_given.specs.Given.{slot_at, slots}
use Rattle.map_writer.specs.Inside.{slot_size, slots_size}
use Rattle.map_given.proofs.Laws.{text_fits, none_graver, slots_more, no_slots}
use Rattle.map_writer.proofs.Laws.{slots_size_turn}
use Rattle.map_given.specs.Faults.{is_text, is_eight, slot_fault, slots_fault}
use Rattle.map_writer.specs.Write.{slot_value, items_of}
use Rattle.map_given.proofs.Clean.{present_fits, eight_fits}

-- one byte more at the end of a run
byte_more : (a l : List ℕ) (i n b : ℕ) → length a ≡ n → set (sets l i a) (i + n) b ≡ sets l i (a ++ (b ∷ []))
byte_more a l i n b e = rw (← e) (sets_append a l i (b ∷ []))

-- a part of some bytes has its length
pub part_long : (text : List ℕ) (from n : ℕ) → from + n ≤ length text → length (take n (drop from text)) ≡ n
part_long text from n h = length-take-le n (drop from text) (simp length-drop (omega arith))

-- a part that comes back as these bytes: the whole with them at the place
pub part_set : (l vs : List ℕ) (at k : ℕ) → k ≡ length vs → at + k ≤ length l → put_mid at k l vs ≡ sets l at vs
part_set l vs at k e h = rw (e, sets-eq vs l at (omega arith)) (simp (drop-drop, append_assoc))

-- a part that comes back filled with zeros
pub filled : (l now : List ℕ) (at k : ℕ) → at + k ≤ length l → now ≡ replicate (length (take (at + k - at) (drop at l))) 0 → put_mid at (at + k - at) l now ≡ sets l at (replicate k 0)
filled l now at k h e = rw (e, add-sub_cancel_left, part_long l at k h) (part_set l (replicate k 0) at k (sym (length-replicate k 0)) h)

-- a text: its tag, its length byte and its bytes, and its 00 last
pub text_run : (l v : List ℕ) (pos tag n m : ℕ) → length v ≡ m → set (sets l pos (tag ∷ n ∷ v)) (pos + 2 + m) 0 ≡ sets l pos (tag ∷ n ∷ (v ++ (0 ∷ [])))
text_run l v pos tag n m e =
    let a : pos + 2 + m ≡ pos + (2 + m) = omega arith in
    let b : length (tag ∷ n ∷ v) ≡ 2 + m = omega arith in
    rw a (byte_more (tag ∷ n ∷ v) l pos (2 + m) 0 b)

module _ (text : List ℕ) (s : Slot) where
  item_bytes : (v : List ℕ) → s.mark ≡ 1 → slot_value text s ≡ v → items_bytes (items_of text (s ∷ [])) ≡ s.tag ∷ length v ∷ v
  unfolding items_of items_bytes
  item_bytes v e f = simp (eq-eqb s.mark 1 e, f, append-nil)

  pub text_bytes : s.mark ≡ 1 → is_text s.tag ≡ true → s.first + s.second ≤ length text
      → items_bytes (items_of text (s ∷ [])) ≡ s.tag ∷ (s.second + 1) ∷ (take s.second (drop s.first text) ++ (0 ∷ []))
  unfolding slot_value
  text_bytes e f h =
      let v = take s.second (drop s.first text) in
      let l : length v ≡ s.second = length-take-le s.second (drop s.first text) (simp length-drop (omega arith)) in
      let k : length (v ++ (0 ∷ [])) ≡ s.second + 1 = length-append v (0 ∷ []) ∙ omega arith in
      item_bytes (v ++ (0 ∷ [])) e (rw f) ∙ ap (λ (n : ℕ). s.tag ∷ n ∷ (v ++ (0 ∷ []))) k

  pub eight_bytes : s.mark ≡ 1 → s.tag ≡ 0x4D → s.second ≡ 8 → s.first + 8 ≤ length text → items_bytes (items_of text (s ∷ [])) ≡ 0x4D ∷ 8 ∷ take 8 (drop s.first text)
  unfolding slot_value is_text is_eight has
  eight_bytes e f g h =
      let v = take 8 (drop s.first text) in
      let l : length v ≡ 8 = length-take-le 8 (drop s.first text) (simp length-drop (omega arith)) in
      item_bytes v e (rw (f, g)) ∙ rw (f, l)

  pub number_bytes : s.mark ≡ 1 → is_text s.tag ≡ false → is_eight s.tag ≡ false → items_bytes (items_of text (s ∷ [])) ≡ s.tag ∷ 4 ∷ be_bytes 4 s.first
  unfolding slot_value
  number_bytes e f g = item_bytes (be_bytes 4 s.first) e (rw (f, g)) ∙ rw (length-be_bytes 4 s.first)

  -- what a present slot without fault takes
  pub size_text : s.mark ≡ 1 → is_text s.tag ≡ true → s.second ≤ 254 → slot_size s ≡ 3 + s.second
  unfolding slot_size
  size_text e f h = simp (eq-eqb s.mark 1 e, f, le-ltb 254 s.second h)

  pub size_eight : s.mark ≡ 1 → is_text s.tag ≡ false → is_eight s.tag ≡ true → slot_size s ≡ 10
  unfolding slot_size
  size_eight e f g = simp (eq-eqb s.mark 1 e, f, g)

  pub size_number : s.mark ≡ 1 → is_text s.tag ≡ false → is_eight s.tag ≡ false → slot_size s ≡ 6
  unfolding slot_size
  size_number e f g = simp (eq-eqb s.mark 1 e, f, g)

  -- an absent slot has no bytes
  pub absent_bytes : (s.mark ≡ 1 → ⊥) → items_bytes (items_of text (s ∷ [])) ≡ []
  unfolding items_of items_bytes
  absent_bytes e = simp (ne_eqb s.mark 1 e)

  pub size_absent : (s.mark ≡ 1 → ⊥) → slot_size s ≡ 0
  unfolding slot_size
  size_absent e = simp (ne_eqb s.mark 1 e)

eight_tag : (t : ℕ) → is_eight t ≡ true → t ≡ 0x4D
unfolding is_eight
eight_tag t e = eqb-true t 0x4D e

no_items : (text : List ℕ) → length (items_bytes (items_of text [])) ≡ 0
unfolding items_of items_bytes
no_items text = refl

-- the bytes of a slot's item are as many as its size, where it has no fault
pub slot_length : (text : List ℕ) (s : Slot) → slot_fault text s ≡ None → length (items_bytes (items_of text (s ∷ []))) ≡ slot_size s
slot_length text s h = go (eqb s.mark 1) refl (is_text s.tag) refl (is_eight s.tag) refl
  where
    go : (a : Bool) → eqb s.mark 1 ≡ a → (b : Bool) → is_text s.tag ≡ b → (d : Bool) → is_eight s.tag ≡ d → length (items_bytes (items_of text (s ∷ []))) ≡ slot_size s
    go true p true q d r =
        let e = eqb-true s.mark 1 p in
        let f = text_fits text s q (present_fits text s e h) in
        let v = take s.second (drop s.first text) in
        let l : length v ≡ s.second = length-take-le s.second (drop s.first text) (simp length-drop (omega (arith, f.0))) in
        let k = length-append v (0 ∷ []) in
        rw (text_bytes text s e q f.0, size_text text s e q f.1) (omega arith)
    go true p false q true r =
        let e = eqb-true s.mark 1 p in
        let f = eight_fits text s q r (present_fits text s e h) in
        let l : length (take 8 (drop s.first text)) ≡ 8 = length-take-le 8 (drop s.first text) (simp length-drop (omega (arith, f.1))) in
        let t : s.tag ≡ 0x4D = eight_tag s.tag r in
        rw (eight_bytes text s e t f.0 f.1, size_eight text s e q r) (omega arith)
    go true p false q false r =
        let e = eqb-true s.mark 1 p in
        rw (number_bytes text s e q r, size_number text s e q r) (omega (arith, length-be_bytes 4 s.first))
    go false p b q d r = rw (absent_bytes text s (eqb-false s.mark 1 p), size_absent text s (eqb-false s.mark 1 p))

-- a slot's bytes come first
pub items_cons : (text : List ℕ) (s : Slot) (ss : List Slot) → items_bytes (items_of text (s ∷ ss)) ≡ items_bytes (items_of text (s ∷ [])) ++ items_bytes (items_of text ss)
unfolding items_of items_bytes
items_cons text s ss = go (eqb s.mark 1)
  where
    go : (a : Bool)
        → items_bytes (pick a (record { tag = s.tag; value = slot_value text s } ∷ items_of text ss) (items_of text ss))
        ≡ items_bytes (pick a (record { tag = s.tag; value = slot_value text s } ∷ []) []) ++ items_bytes (items_of text ss)
    go true = simp (append-nil, append_assoc)
    go false = refl

-- the items of slots without fault take what their sizes say
pub slots_length : (text : List ℕ) (ss : List Slot) → slots_fault text ss ≡ None → length (items_bytes (items_of text ss)) ≡ slots_size ss
unfolding slots_fault slots_size
slots_length text [] h = no_items text
slots_length text (s ∷ ss) h =
    let n = none_graver (slot_fault text s) (slots_fault text ss) h in
    rw (items_cons text s ss)
    (length-append (items_bytes (items_of text (s ∷ []))) (items_bytes (items_of text ss)) ∙ omega (arith, slot_length text s n.0, slots_length text ss n.1))

-- the writing of slots: what is left to do from here gives the whole
pub record SlotsLeft (whole text ws : List ℕ) (size : ℕ) (out : List ℕ) (to place next left : ℕ) : Type 0 where
  pub words : place + 3 * left ≤ length ws
  pub tags : next + left < 256
  pub room : to + slots_size (slots left ws place next) ≤ size
  pub clean : slots_fault text (slots left ws place next) ≡ None
  pub long : length out ≡ size
  pub same : sets out to (items_bytes (items_of text (slots left ws place next))) ≡ whole

module _ (whole text ws : List ℕ) (size : ℕ) (out : List ℕ) (to place next left : ℕ) (h : 0 < left) (l : SlotsLeft whole text ws size out to place next left) where
  abbrev s : Slot
  s = slot_at ws place next

  abbrev ss : List Slot
  ss = slots (left - 1) ws (place + 3) (next + 1)

  pub slot_clean : (slot_fault text s ≡ None) × (slots_fault text ss ≡ None)
  unfolding slots_fault
  slot_clean = none_graver (slot_fault text s) (slots_fault text ss) (rw (slots_more left ws place next h) at l.clean)

  pub slot_room : to + slot_size s + slots_size ss ≤ size
  unfolding slots_size
  slot_room = let r = l.room in omega (arith, slots_size_turn ws left place next h)

  pub slots_turn : (now : List ℕ) → length now ≡ size → now ≡ sets out to (items_bytes (items_of text (s ∷ []))) → SlotsLeft whole text ws size now (to + slot_size s) (place + 3) (next + 1) (left - 1)
  slots_turn now k e =
      let w = l.words in let t = l.tags in
      record {
        words = omega arith;
        tags = omega arith;
        room = slot_room;
        clean = slot_clean.1;
        long = k;
        same =
            rw (e, ← slot_length text s slot_clean.0, sets_append (items_bytes (items_of text (s ∷ []))) out to (items_bytes (items_of text ss)), ← items_cons text s ss, ← slots_more left ws place next h)
            l.same;
      }

pub slots_done : (whole text ws : List ℕ) (size : ℕ) (out : List ℕ) (to place next left : ℕ) → left ≤ 0 → SlotsLeft whole text ws size out to place next left → out ≡ whole
unfolding items_of items_bytes
slots_done whole text ws size out to place next left h l = rw (no_slots left ws place next h) at l.same
