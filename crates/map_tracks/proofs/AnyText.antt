-- The verdict on a track does not read its 4F: the items' judge asks for the text rule alone, and a track's end for the places of its name and of the wrong form.
use Prim.Native.Nat.{ℕ, ◌+◌, ◌-◌}
use mathlib.Core.Path.{◌≡◌, refl, sym, ◌∙◌}
use mathlib.Core.Bool.{Bool, true, false}
use mathlib.Core.List.{List, [], ◌∷◌}
use native.Mathlib.Omega.{arith}
use lib.ListN.{length}
use lib.Dec.{eqb}
use borrow.Author.Tests.{ne_eqb}
use Rattle.std.specs.Prelude.{Ok, Some, None}
use Rattle.plate.specs.Choice.{pick}
use Rattle.text.specs.Text.{text_ok}
use Rattle.media_type.specs.MediaType.{wrong_form}
use Rattle.map_items.specs.Items.{Item, items_bytes}
use Rattle.map_items.specs.Find.{Found, missing, found, find, part_of}
use Rattle.map_items.specs.Judge.{bad, form_of, is_known, fault_of, counts_as, has, judge_items, or_bad}
use Rattle.map_items.specs.declared.Section.TheVariants as section
use Rattle.plate.specs.declared.Fault.TheVariants as fault
use Rattle.map_items.proofs.Anywhere.{not_accepted, item_anywhere, judge_anywhere, verdict_bytes, both_accepted}
use Rattle.map_items.proofs.Split as split
use Rattle.map_aspect.specs.Meaning.{Mpeg}
use Rattle.map_aspect.proofs.Meaning.{mpeg_is}
use Rattle.map_tracks.specs.Tracks.{on_form, track_over, track_verdict}
use Rattle.map_tracks.specs.AnyText.{with_text, AnyText}
use Rattle.map_tracks.proofs.Anywhere.{track_accepted}
use Rattle.map_tracks.proofs.Form.{size_of, over_alike}
use Rattle.map_items.proofs.Same.{same_part}

-- the items pass, at other places too
module _ (v w : List ℕ) (after : List Item) (t : text_ok w ≡ true) where
  items_pass : (seen : List ℕ) (p q : ℕ) (before : List Item) → judge_items section.Track seen p (with_text before v after) ≡ (Ok tt) → judge_items section.Track seen q (with_text before w after) ≡ (Ok tt)
  unfolding judge_items form_of is_known fault_of counts_as
  items_pass seen p q [] e = rw t (go (text_ok v) (has 0x4D seen) e)
    where
      go : (a b : Bool) → or_bad (pick a None (Some fault.Text)) p (pick b (bad fault.Twice p) (judge_items section.Track (0x4D ∷ seen) (p + 2 + length v) after)) ≡ (Ok tt)
          → pick b (bad fault.Twice q) (judge_items section.Track (0x4D ∷ seen) (q + 2 + length w) after) ≡ (Ok tt)
      go true true f = not_accepted fault.Twice p f
      go true false f = judge_anywhere section.Track (0x4D ∷ seen) (p + 2 + length v) (q + 2 + length w) after f
      go false b f = not_accepted fault.Text p f
  items_pass seen p q (i ∷ before) e = item_anywhere section.Track seen p q i _ _ (λ z. items_pass z (p + 2 + length i.value) (q + 2 + length i.value) before) e

-- another tag is found as before, and as long
module _ (tag : ℕ) (other : tag ≡ 0x4F → ⊥) where
  one_more : (p q : ℕ) (x y : Found) (i : Item) → size_of x ≡ size_of y → size_of (pick (eqb i.tag tag) (found p i.value) x) ≡ size_of (pick (eqb i.tag tag) (found q i.value) y)
  unfolding size_of
  one_more p q x y i e = go (eqb i.tag tag)
    where
      go : (b : Bool) → size_of (pick b (found p i.value) x) ≡ size_of (pick b (found q i.value) y)
      go true = refl
      go false = e

  size_anywhere : (p q : ℕ) (is : List Item) → size_of (find tag p is) ≡ size_of (find tag q is)
  unfolding find
  size_anywhere p q [] = refl
  size_anywhere p q (i ∷ is) = one_more (p + 2) (q + 2) _ _ i (size_anywhere (p + 2 + length i.value) (q + 2 + length i.value) is)

  size_same : (p q : ℕ) (before after : List Item) (v w : List ℕ) → size_of (find tag p (with_text before v after)) ≡ size_of (find tag q (with_text before w after))
  unfolding find
  size_same p q [] after v w = rw (ne_eqb 0x4F tag (λ e. other (sym e))) (size_anywhere (p + 2 + length v) (q + 2 + length w) after)
  size_same p q (i ∷ before) after v w = one_more (p + 2) (q + 2) _ _ i (size_same (p + 2 + length i.value) (q + 2 + length i.value) before after v w)

passes : (type_byte p : ℕ) (before after : List Item) (v w : List ℕ) → Mpeg (type_byte - 0x80) → text_ok w ≡ true
    → track_verdict type_byte (items_bytes (with_text before v after)) p ≡ (Ok tt) → track_verdict type_byte (items_bytes (with_text before w after)) p ≡ (Ok tt)
unfolding track_verdict wrong_form
passes type_byte p before after v w m t e =
    let is = with_text before v after in
    let js = with_text before w after in
    let a = track_accepted type_byte (items_bytes is) p e in
    let g = (both_accepted (judge_items section.Track [] p is) (Ok tt) (sym (verdict_bytes section.Track is p) ∙ a.0)).0 in
    let o : track_over type_byte is p ≡ (Ok tt) = rw (split.section_bytes_lem is) at a.1 in
    let f : wrong_form (type_byte - 0x80) ≡ 0x4D = rw (mpeg_is (type_byte - 0x80) m) in
    let h = over_alike type_byte is js p p (size_same 0x4C (λ z. omega arith) p p before after v w) (rw f (size_same 0x4D (λ z. omega arith) p p before after v w)) o in
    rw (verdict_bytes section.Track js p, items_pass v w after t [] p p before g, split.section_bytes_lem js) h

-- with a text as long, each item stands where it stood, and the same is found there
module _ (v w : List ℕ) (after : List Item) (a : text_ok v ≡ true) (b : text_ok w ≡ true) (l : length v ≡ length w) where
  items_same : (seen : List ℕ) (p : ℕ) (before : List Item) → judge_items section.Track seen p (with_text before v after) ≡ judge_items section.Track seen p (with_text before w after)
  unfolding judge_items form_of is_known fault_of counts_as
  items_same seen p [] = rw (a, b, l) refl
  items_same seen p (i ∷ before) =
      rw (items_same (counts_as i.tag ∷ seen) (p + 2 + length i.value) before, items_same seen (p + 2 + length i.value) before) refl

  part_same : (tag p : ℕ) (before : List Item) → part_of (find tag p (with_text before v after)) ≡ part_of (find tag p (with_text before w after))
  unfolding find
  part_same tag p [] = go (eqb 0x4F tag)
    where
      go : (c : Bool) → part_of (pick c (found (p + 2) v) (find tag (p + 2 + length v) after)) ≡ part_of (pick c (found (p + 2) w) (find tag (p + 2 + length w) after))
      go true = rw l refl
      go false = rw l refl
  part_same tag p (i ∷ before) = go (eqb i.tag tag) (part_same tag (p + 2 + length i.value) before)
    where
      go : (c : Bool) → part_of (find tag (p + 2 + length i.value) (with_text before v after)) ≡ part_of (find tag (p + 2 + length i.value) (with_text before w after))
          → part_of (pick c (found (p + 2) i.value) (find tag (p + 2 + length i.value) (with_text before v after)))
          ≡ part_of (pick c (found (p + 2) i.value) (find tag (p + 2 + length i.value) (with_text before w after)))
      go true e = refl
      go false e = e

  -- the end of a track asks for places alone
  form_same : (x y : Found) → part_of x ≡ part_of y → on_form x ≡ on_form y
  form_same missing missing e = refl
  form_same missing (found q z) e = absurd (let k : ◌≡◌ {A = ℕ} 0 1 = cc in omega arith)
  form_same (found p z) missing e = absurd (let k : ◌≡◌ {A = ℕ} 0 1 = cc in omega arith)
  form_same (found p y) (found q z) e = rw (same_part p (length y) q (length z) e).0 refl

  over_same : (type_byte p : ℕ) (before : List Item) → track_over type_byte (with_text before v after) p ≡ track_over type_byte (with_text before w after) p
  unfolding track_over
  over_same type_byte p before =
      rw (part_same 0x4C p before, form_same (find (wrong_form (type_byte - 0x80)) p (with_text before v after)) (find (wrong_form (type_byte - 0x80)) p (with_text before w after)) (part_same (wrong_form (type_byte - 0x80)) p before)) refl

  same : (type_byte p : ℕ) (before : List Item) → track_verdict type_byte (items_bytes (with_text before v after)) p ≡ track_verdict type_byte (items_bytes (with_text before w after)) p
  unfolding track_verdict
  same type_byte p before =
      rw (
        verdict_bytes section.Track (with_text before v after) p,
        verdict_bytes section.Track (with_text before w after) p,
        split.section_bytes_lem (with_text before v after),
        split.section_bytes_lem (with_text before w after),
        items_same [] p before,
        over_same type_byte p before,
      ) refl

pub any_text : (type_byte p : ℕ) (before after : List Item) (v w : List ℕ) → AnyText type_byte p before after v w
any_text type_byte p before after v w = record { same = λ a b l. same v w after a b l type_byte p before; passes = passes type_byte p before after v w }
