-- The lists of a written map are what the reader asks: its judges accept them.
use Prim.Native.Nat.{ℕ, zero, suc, ◌+◌, ◌-◌, ◌/◌, ◌<◌, ◌≤◌}
use mathlib.Core.Path.{◌≡◌, refl, sym, ◌∙◌}
use mathlib.Core.Bool.{Bool, true, false}
use mathlib.Core.List.{List, [], ◌∷◌, ◌++◌, map}
use native.Mathlib.Omega.{arith}
use native.Mathlib.Nat.{add-sub_cancel_left}
use borrow.Author.Tests.{eq-eqb, ne_eqb, eqb-true, eqb-false}
use lib.ListN.{length, get_or, take, drop, length-drop}
use lib.Seq.{length-take-le}
use lib.Dec.{eqb}
use Rattle.std.specs.Prelude.{Ok, None}
use Rattle.plate.specs.Choice.{pick}
use Rattle.number.specs.Number.{be_bytes}
use Rattle.number.proofs.Laws.{length-be_bytes}
use Rattle.map_items.specs.Items.{Item}
use Rattle.map_items.specs.Judge.{form_of, is_known, fault_of, counts_as, has, judge_items}
use Rattle.map_items.specs.declared.Form.{Form}
use Rattle.map_items.specs.declared.Form.TheVariants.{Text, Sized}
use Rattle.map_items.specs.declared.Section.{Section}
use Rattle.map_items.specs.declared.Section.TheVariants as section
use Rattle.media_type.specs.MediaType.{wrong_form}
use Rattle.map_items.proofs.Anywhere.{never, verdict_bytes}
use Rattle.map_items.proofs.Split.{section_bytes_lem}
use Rattle.map_tracks.proofs.Form.{on_absent}
use Rattle.map_tracks.specs.Tracks.{Description, over, track_over, track_verdict, end_verdict, judge_tracks}
use Rattle.map_tracks.proofs.Anywhere.{Passed, pass}
use Rattle.map.specs.Encode.{TrackParts, described}
use Rattle.map.specs.Inside.{Good}
use Rattle.map_given.specs.declared.Slot.{Slot}
use Rattle.map_given.specs.Given.{slot_at, slots, material_slots, Given, track_at, tracks_from, tracks_given}
use Rattle.map_given.specs.Faults.{is_text, is_eight, slot_fault, slots_fault, given, own_fault, tracks_fault, id_fault, ids_fault, given_wrong, any_wrong}
use Rattle.map_writer.specs.Write.{slot_value, items_of, parts_of_track, parts_given}
use Rattle.map_writer.proofs.ViewGiven.{not_given_missing}
use Rattle.map_given.proofs.Laws.{none_graver}
use Rattle.map_given.proofs.Clean.{present_fits, eight_fits, tracks_clean, Clean, reads_text, not_both, id_fresh}

-- the form of a slot's item
abbrev shape_of : ℕ → Form
shape_of tag = pick (is_text tag) Text (pick (is_eight tag) (Sized 8) (Sized 4))

-- slots whose tags have that form in a section
abbrev Known : Section → List Slot → Type 0
Known section [] = Unit {0}
Known section (s ∷ ss) = (form_of section s.tag ≡ shape_of s.tag) × Known section ss

-- an item of a slot without fault has none
item_fine : (text : List ℕ) (s : Slot) → s.mark ≡ 1 → slot_fault text s ≡ None → fault_of (shape_of s.tag) (slot_value text s) ≡ None
unfolding fault_of slot_value
item_fine text s e h = go (is_text s.tag) refl (is_eight s.tag) refl
  where
    go : (a : Bool) → is_text s.tag ≡ a → (b : Bool) → is_eight s.tag ≡ b
        → fault_of (pick a Text (pick b (Sized 8) (Sized 4))) (pick a (take s.second (drop s.first text) ++ (0 ∷ [])) (pick b (take s.second (drop s.first text)) (be_bytes 4 s.first))) ≡ None
    go true p b q = rw (reads_text text s e p h)
    go false p true q =
        let f = eight_fits text s p q (present_fits text s e h) in
        let l : length (take s.second (drop s.first text)) ≡ 8 = rw f.0 (length-take-le 8 (drop s.first text) (simp length-drop (omega (arith, f.1)))) in
        rw l
    go false p false q = rw (length-be_bytes 4 s.first)

shape_known : (tag : ℕ) → is_known (shape_of tag) ≡ true
unfolding is_known
shape_known tag = go (is_text tag) (is_eight tag)
  where
    go : (a b : Bool) → is_known (pick a Text (pick b (Sized 8) (Sized 4))) ≡ true
    go true b = refl
    go false true = refl
    go false false = refl

-- no tag seen is t or more
abbrev Below : ℕ → List ℕ → Type 0
Below t seen = (x : ℕ) → t ≤ x → has x seen ≡ false

-- 4F has not met 4D, and will not
abbrev Free : List ℕ → List Slot → Type 0
Free seen ss = given 0x4F ss ≡ true → (has 0x4D seen ≡ false) × (given 0x4D ss ≡ false)

counts_under : (t : ℕ) → counts_as t ≤ t
unfolding counts_as
counts_under t = go (eqb t 0x4F) refl
  where
    go : (b : Bool) → eqb t 0x4F ≡ b → pick b 0x4D t ≤ t
    go true e = let f = eqb-true t 0x4F e in omega arith
    go false e = omega arith

below_more : (t : ℕ) (seen : List ℕ) → Below t seen → Below (t + 1) (counts_as t ∷ seen)
unfolding has
below_more t seen b x h = simp (ne_eqb x (counts_as t) (λ e. omega (arith, counts_under t))) (b x (omega arith))

below_next : (t : ℕ) (seen : List ℕ) → Below t seen → Below (t + 1) seen
below_next t seen b x h = b x (omega arith)

module _ (ws : List ℕ) where
  -- a tag below those of some slots is not given among them
  not_given : (n at t tag : ℕ) → tag < t → given tag (slots n ws at t) ≡ false
  unfolding slots given
  not_given zero at t tag h = refl
  not_given (suc n) at t tag h = simp (ne_eqb t tag (λ e. omega arith)) (not_given n (at + 3) (t + 1) tag (omega arith))

  -- the head of some slots, as 4D, as 4F, and as another
  given_head : (n at t tag : ℕ) → t ≡ tag → given tag (slots (suc n) ws at t) ≡ eqb (get_or ws at 0) 1
  unfolding slots given
  given_head n at t tag e = simp (eq-eqb t tag e)

  given_tail : (n at t tag : ℕ) → (t ≡ tag → ⊥) → given tag (slots (suc n) ws at t) ≡ given tag (slots n ws (at + 3) (t + 1))
  unfolding slots given
  given_tail n at t tag e = simp (ne_eqb t tag e)

  -- at a present slot: its own tag has not been seen
  fresh : (n at t : ℕ) (seen : List ℕ) → eqb (get_or ws at 0) 1 ≡ true → Below t seen → Free seen (slots (suc n) ws at t) → has (counts_as t) seen ≡ false
  unfolding counts_as
  fresh n at t seen m b f = go (eqb t 0x4F) refl
    where
      go : (x : Bool) → eqb t 0x4F ≡ x → has (pick x 0x4D t) seen ≡ false
      go true e = (f (given_head n at t 0x4F (eqb-true t 0x4F e) ∙ m)).0
      go false e = b t (omega arith)

  -- after an absent slot, and after a present one
  free_absent : (n at t : ℕ) (seen : List ℕ) → eqb (get_or ws at 0) 1 ≡ false → Free seen (slots (suc n) ws at t) → Free seen (slots n ws (at + 3) (t + 1))
  free_absent n at t seen m f g = go (eqb t 0x4F) refl (eqb t 0x4D) refl
    where
      go : (x : Bool) → eqb t 0x4F ≡ x → (y : Bool) → eqb t 0x4D ≡ y → (has 0x4D seen ≡ false) × (given 0x4D (slots n ws (at + 3) (t + 1)) ≡ false)
      go true e y k = absurd (let a = eqb-true t 0x4F e in let z : false ≡ true = sym (not_given n (at + 3) (t + 1) 0x4F (omega arith)) ∙ g in let w : ◌≡◌ {A = ℕ} 0 1 = cc in omega arith)
      go false e true k = let a = eqb-true t 0x4D k in ((f (given_tail n at t 0x4F (eqb-false t 0x4F e) ∙ g)).0, not_given n (at + 3) (t + 1) 0x4D (omega arith))
      go false e false k =
          let p = f (given_tail n at t 0x4F (eqb-false t 0x4F e) ∙ g) in
          (p.0, sym (given_tail n at t 0x4D (eqb-false t 0x4D k)) ∙ p.1)

  free_present : (n at t : ℕ) (seen : List ℕ) → eqb (get_or ws at 0) 1 ≡ true → Free seen (slots (suc n) ws at t) → Free (counts_as t ∷ seen) (slots n ws (at + 3) (t + 1))
  unfolding has counts_as
  free_present n at t seen m f g = go (eqb t 0x4F) refl (eqb t 0x4D) refl
    where
      no : {X : Type 0} → true ≡ false → X
      no e = absurd (let y : ◌≡◌ {A = ℕ} 0 1 = cc in omega arith)

      go : (x : Bool) → eqb t 0x4F ≡ x → (y : Bool) → eqb t 0x4D ≡ y
          → (pick (eqb 0x4D (pick x 0x4D t)) true (has 0x4D seen) ≡ false) × (given 0x4D (slots n ws (at + 3) (t + 1)) ≡ false)
      go true e y k = let a = eqb-true t 0x4F e in no (sym g ∙ not_given n (at + 3) (t + 1) 0x4F (omega arith))
      go false e true k = no (sym m ∙ sym (given_head n at t 0x4D (eqb-true t 0x4D k)) ∙ (f (given_tail n at t 0x4F (eqb-false t 0x4F e) ∙ g)).1)
      go false e false k =
          let p = f (given_tail n at t 0x4F (eqb-false t 0x4F e) ∙ g) in
          (simp (ne_eqb 0x4D t (λ z. eqb-false t 0x4D k (sym z))) p.0, sym (given_tail n at t 0x4D (eqb-false t 0x4D k)) ∙ p.1)

-- slots of a section without fault are judged good
judge_slots : (text ws : List ℕ) (section : Section) (n at t p : ℕ) (seen : List ℕ) → Known section (slots n ws at t) → slots_fault text (slots n ws at t) ≡ None
    → Below t seen → Free seen (slots n ws at t) → judge_items section seen p (items_of text (slots n ws at t)) ≡ (Ok tt)
unfolding slots slots_fault items_of judge_items
judge_slots text ws section zero at t p seen k h b f = refl
judge_slots text ws section (suc n) at t p seen k h b f =
    let g = none_graver (slot_fault text (slot_at ws at t)) (slots_fault text (slots n ws (at + 3) (t + 1))) h in
    go (eqb (get_or ws at 0) 1) refl g.0 (λ q. judge_slots text ws section n (at + 3) (t + 1) q seen k.1 g.1 (below_next t seen b))
    (λ q. judge_slots text ws section n (at + 3) (t + 1) q (counts_as t ∷ seen) k.1 g.1 (below_more t seen b))
  where
    s : Slot
    s = slot_at ws at t

    rest : List Item
    rest = items_of text (slots n ws (at + 3) (t + 1))

    go : (x : Bool) → eqb (get_or ws at 0) 1 ≡ x → slot_fault text (slot_at ws at t) ≡ None
        → ((q : ℕ) → Free seen (slots n ws (at + 3) (t + 1)) → judge_items section seen q (items_of text (slots n ws (at + 3) (t + 1))) ≡ (Ok tt))
        → ((q : ℕ) → Free (counts_as t ∷ seen) (slots n ws (at + 3) (t + 1)) → judge_items section (counts_as t ∷ seen) q (items_of text (slots n ws (at + 3) (t + 1))) ≡ (Ok tt))
        → judge_items section seen p (pick x (record { tag = t; value = slot_value text (slot_at ws at t) } ∷ items_of text (slots n ws (at + 3) (t + 1))) (items_of text (slots n ws (at + 3) (t + 1)))) ≡ (Ok tt)
    go true e z absent present =
        rw (k.0, item_fine text (slot_at ws at t) (eqb-true (get_or ws at 0) 1 e) z, shape_known t, fresh ws n at t seen e b f)
        (present (p + 2 + length (slot_value text (slot_at ws at t))) (free_present ws n at t seen e f))
    go false e z absent present = absent p (free_absent ws n at t seen e f)

-- nothing has been seen at first
none_below : (t : ℕ) → Below t []
unfolding has
none_below t x h = refl

pub none_same : (x : ℕ) → has (0xC0 + x) [] ≡ has x []
unfolding has
none_same x = refl

-- the forms of the tags, section by section
material_known : (ms : List ℕ) → Known section.Material (material_slots ms)
unfolding slots form_of is_text is_eight has
material_known ms = (refl, (refl, (refl, (refl, (refl, (refl, tt))))))

track_known : (ts : List ℕ) (at : ℕ) → Known section.Track (track_at ts at).slots
unfolding slots form_of is_text is_eight has
track_known ts at = (refl, (refl, (refl, (refl, (refl, (refl, (refl, tt)))))))

no_4_f : (ms : List ℕ) → given 0x4F (material_slots ms) ≡ false
unfolding slots given
no_4_f ms = refl

no_track : (ids : List ℕ) (p : ℕ) → judge_tracks ids p [] over ≡ (Ok tt)
unfolding judge_tracks end_verdict
no_track ids p = refl

-- a track that passes
made : (ids : List ℕ) (p : ℕ) (t : TrackParts) (ds : List Description) → 0x80 ≤ t.type_byte → 0xC0 ≤ t.id → has t.id ids ≡ false
    → judge_items section.Track [] (p + 4) t.items ≡ (Ok tt) → track_over t.type_byte t.items (p + 4) ≡ (Ok tt)
    → judge_tracks (t.id ∷ ids) (p + 4 + length (described t).items) ds over ≡ (Ok tt)
    → Passed ids p (described t) ds over
unfolding described track_verdict
made ids p t ds k i f g o r = record { type_byte = k; id = i; fresh = f; items = rw (verdict_bytes section.Track t.items (p + 4), g, section_bytes_lem t.items) o; rest = r }

-- the slots of the material, and of a track
pub material_good : (text ms : List ℕ) (p : ℕ) → slots_fault text (material_slots ms) ≡ None → judge_items section.Material [] p (items_of text (material_slots ms)) ≡ (Ok tt)
material_good text ms p h =
    judge_slots text ms section.Material 6 0 0x40 p [] (material_known ms) h (none_below 0x40)
    (λ e. absurd (let z : false ≡ true = sym (no_4_f ms) ∙ e in let y : ◌≡◌ {A = ℕ} 0 1 = cc in omega arith))

pub track_good : (text ts : List ℕ) (at p : ℕ) → own_fault (track_at ts at) ≡ None → slots_fault text (track_at ts at).slots ≡ None
    → judge_items section.Track [] p (items_of text (track_at ts at).slots) ≡ (Ok tt)
track_good text ts at p o h =
    judge_slots text ts section.Track 7 (at + 2) 0x4C p [] (track_known ts at) h (none_below 0x4C) (λ e. (none_below 0 0x4D (omega arith), not_both (track_at ts at) o e))

-- a track that is not given the wrong form passes at its end
pub form_good : (text ts : List ℕ) (at p : ℕ) → given_wrong (track_at ts at) ≡ false → track_over (0x80 + (track_at ts at).media_type) (items_of text (track_at ts at).slots) p ≡ (Ok tt)
unfolding given_wrong
form_good text ts at p h =
    let media_type = get_or ts at 0 in
    let e : 0x80 + media_type - 0x80 ≡ media_type = add-sub_cancel_left 0x80 media_type in
    let m = not_given_missing text ts 7 (at + 2) 0x4C (wrong_form media_type) p h in
    sym (on_absent (0x80 + media_type) (items_of text (track_at ts at).slots) p (rw (e, m)))

none_wrong : (t : Given) (ts : List Given) → any_wrong (t ∷ ts) ≡ false → (given_wrong t ≡ false) × (any_wrong ts ≡ false)
unfolding any_wrong
none_wrong t ts = go (given_wrong t)
  where
    go : (b : Bool) → pick b true (any_wrong ts) ≡ false → (b ≡ false) × (any_wrong ts ≡ false)
    go true e = never e
    go false e = (refl, e)

-- the IDs as their bytes
abbrev pub Same : List ℕ → List ℕ → Type 0
Same ids marked = (x : ℕ) → has (0xC0 + x) marked ≡ has x ids

pub same_more : (ids marked : List ℕ) (id : ℕ) → Same ids marked → Same (id ∷ ids) ((0xC0 + id) ∷ marked)
unfolding has
same_more ids marked id f x = go (eqb x id) refl
  where
    go : (b : Bool) → eqb x id ≡ b → pick (eqb (0xC0 + x) (0xC0 + id)) true (has (0xC0 + x) marked) ≡ pick b true (has x ids)
    go true e = let a = eqb-true x id e in simp (eq-eqb (0xC0 + x) (0xC0 + id) (omega arith))
    go false e = simp (ne_eqb (0xC0 + x) (0xC0 + id) (λ z. eqb-false x id e (omega arith))) (f x)

module _ (text ts : List ℕ) where
  judge_tracks_lem : (n at p : ℕ) (ids marked : List ℕ) → Same ids marked → tracks_fault text (tracks_from n ts at) ≡ None → ids_fault ids (tracks_from n ts at) ≡ None
      → any_wrong (tracks_from n ts at) ≡ false → judge_tracks marked p (map described (map (parts_of_track text) (tracks_from n ts at))) over ≡ (Ok tt)
  unfolding tracks_from ids_fault
  judge_tracks_lem zero at p ids marked f h k w = no_track marked p
  judge_tracks_lem (suc n) at p ids marked f h k w =
      let t = track_at ts at in
      let c = tracks_clean text t (tracks_from n ts (at + 23)) h in
      let g = none_wrong t (tracks_from n ts (at + 23)) w in
      let i = none_graver (id_fault ids t.id) (ids_fault (t.id ∷ ids) (tracks_from n ts (at + 23))) k in
      pass marked p (described (parts_of_track text t)) (map described (map (parts_of_track text) (tracks_from n ts (at + 23)))) over
      (made marked p (parts_of_track text t) (map described (map (parts_of_track text) (tracks_from n ts (at + 23)))) (omega arith) (omega arith) (f t.id ∙ id_fresh ids t.id i.0) (track_good text ts at (p + 4) c.0 c.1) (form_good text ts at (p + 4) g.0)
      (judge_tracks_lem n (at + 23) (p + 4 + length (described (parts_of_track text t)).items) (t.id ∷ ids) ((0xC0 + t.id) ∷ marked) (same_more ids marked t.id f) c.2 i.1 g.1))

pub parts_good : (text ms ts : List ℕ) → Clean text ms ts → any_wrong (tracks_given ts) ≡ false → Good (parts_given text ms ts)
unfolding parts_given
parts_good text ms ts c w = (material_good text ms 0 c.material, judge_tracks_lem text ts (length ts / 23) 0 0 [] [] (λ x. none_same x) c.tracks c.ids w)
