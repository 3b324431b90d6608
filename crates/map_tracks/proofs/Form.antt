-- A track's end: what its verdict depends on, and that it is 29 just where the track has the wrong form.
use Prim.Native.Nat.{ℕ, suc, ◌+◌, ◌-◌, ◌<◌}
use mathlib.Core.Path.{◌≡◌, refl, sym, ◌∙◌, ap}
use mathlib.Core.Bool.{Bool, true, false}
use mathlib.Core.List.{List, [], ◌∷◌, ◌++◌}
use mathlib.Core.Logic.{inl, inr}
use native.Mathlib.Omega.{arith}
use lib.ListN.{length}
use lib.Dec.{eqb, leb}
use borrow.Author.Tests.{ne_eqb, eqb-true, eqb-false, leb-true, lt-leb}
use Rattle.std.specs.Prelude.{Some, None, Result, Ok, Err, ⊤}
use Rattle.plate.specs.Choice.{pick, within}
use Rattle.plate.specs.Plate.{refusal}
use Rattle.plate.specs.declared.Refusal.{Refusal}
use Rattle.media_type.specs.MediaType.{known_type, mpeg_type, wrong_form}
use Rattle.map_items.specs.Items.{Item, section_of, items_size}
use Rattle.map_items.specs.Find.{Found, missing, found, find, part_of}
use Rattle.map_items.specs.Judge.{bad, form_of, is_known, has, judge_items, verdict_of}
use Rattle.map_items.specs.declared.Section.TheVariants as section
use Rattle.plate.specs.declared.Fault.TheVariants as fault
use Rattle.map_items.proofs.Anywhere.{never, not_accepted, verdict_accepted}
use Rattle.map_items.proofs.Places.{not_refused}
use Rattle.map_items.proofs.Few.{under}
use Rattle.map_items.proofs.Alone.{found_there, stands, faultless, lone_zero}
use Rattle.map_answer.specs.Answer.{is_null}
use Rattle.map_tracks.specs.Tracks.{Description, on_form, track_over, track_verdict, is_listed}
use Rattle.map_tracks.specs.WrongForm.{ItemIn, null_name, mpeg_types, WrongTag, WrongAt, RightForm}
use Rattle.map_items.proofs.Same.{same_part}

-- whether an item was found, and how long it is; where it stands is no matter
unfoldable pub size_of : Found → ℕ
size_of missing = 0
size_of (found p v) = suc (length v)

null_size : (x : Found) → is_null (part_of x) ≡ eqb (size_of x) 2
unfolding is_null size_of
null_size missing = refl
null_size (found p v) = go (eqb (length v) 1) refl
  where
    go : (b : Bool) → eqb (length v) 1 ≡ b → eqb (length v) 1 ≡ eqb (suc (length v)) 2
    go true k = let n = eqb-true (length v) 1 k in rw n
    go false k = rw (k, ne_eqb (suc (length v)) 2 (λ e. eqb-false (length v) 1 k (omega arith)))

form_size : (x y : Found) → size_of x ≡ size_of y → on_form x ≡ (Ok tt) → on_form y ≡ (Ok tt)
unfolding size_of
form_size x missing e h = refl
form_size missing (found q w) e h = absurd (omega arith)
form_size (found p v) (found q w) e h = not_accepted fault.WrongForm (p - 2) h

pub size_anywhere : (tag p q : ℕ) (is : List Item) → size_of (find tag p is) ≡ size_of (find tag q is)
unfolding find size_of
size_anywhere tag p q [] = refl
size_anywhere tag p q (i ∷ is) = go (eqb i.tag tag) (size_anywhere tag (p + 2 + length i.value) (q + 2 + length i.value) is)
  where
    go : (b : Bool) → size_of (find tag (p + 2 + length i.value) is) ≡ size_of (find tag (q + 2 + length i.value) is)
        → size_of (pick b (found (p + 2) i.value) (find tag (p + 2 + length i.value) is))
        ≡ size_of (pick b (found (q + 2) i.value) (find tag (q + 2 + length i.value) is))
    go true e = refl
    go false e = e

-- a track's end passes where that of another track of its type does, if name and wrong form are in both or in neither, and as long
pub over_alike : (type_byte : ℕ) (is js : List Item) (p q : ℕ) → size_of (find 0x4C p is) ≡ size_of (find 0x4C q js)
    → size_of (find (wrong_form (type_byte - 0x80)) p is) ≡ size_of (find (wrong_form (type_byte - 0x80)) q js)
    → track_over type_byte is p ≡ (Ok tt) → track_over type_byte js q ≡ (Ok tt)
unfolding track_over
over_alike type_byte is js p q n w =
    let a = null_size (find 0x4C p is) in
    let b = null_size (find 0x4C q js) in
    rw (a, b, n) (go (known_type (type_byte - 0x80)) (eqb (size_of (find 0x4C q js)) 2))
  where
    wrong : ℕ
    wrong = wrong_form (type_byte - 0x80)

    go : (k z : Bool) → pick k (pick z (Ok tt) (on_form (find wrong p is))) (Ok tt) ≡ (Ok tt) → pick k (pick z (Ok tt) (on_form (find wrong q js))) (Ok tt) ≡ (Ok tt)
    go true true h = refl
    go true false h = form_size (find wrong p is) (find wrong q js) w h
    go false z h = refl

pub over_anywhere : (type_byte : ℕ) (is : List Item) (p q : ℕ) → track_over type_byte is p ≡ (Ok tt) → track_over type_byte is q ≡ (Ok tt)
over_anywhere type_byte is p q = over_alike type_byte is is p q (size_anywhere 0x4C p q is) (size_anywhere (wrong_form (type_byte - 0x80)) p q is)

-- the verdict, by what was asked: the type, the wrong form, the name
module _ (type_byte : ℕ) (is : List Item) (p : ℕ) where
  abbrev wrong : Found
  wrong = find (wrong_form (type_byte - 0x80)) p is

  abbrev null : Bool
  null = is_null (part_of (find 0x4C p is))

  pub on_unlisted : known_type (type_byte - 0x80) ≡ false → (Ok tt) ≡ track_over type_byte is p
  unfolding track_over
  on_unlisted e = rw e

  pub on_absent : part_of wrong ≡ None → (Ok tt) ≡ track_over type_byte is p
  unfolding track_over
  on_absent = go (known_type (type_byte - 0x80)) null wrong
    where
      go : (k z : Bool) (x : Found) → part_of x ≡ None → (Ok tt) ≡ pick k (pick z (Ok tt) (on_form x)) (Ok tt)
      go false z x e = refl
      go true true x e = refl
      go true false missing e = refl
      go true false (found q v) e = absurd (let z : ◌≡◌ {A = ℕ} 0 1 = cc in omega arith)

  pub on_null : null ≡ true → (Ok tt) ≡ track_over type_byte is p
  unfolding track_over
  on_null e = rw e (go (known_type (type_byte - 0x80)))
    where
      go : (k : Bool) → ◌≡◌ {A = Result ⊤ Refusal} (Ok tt) (pick k (Ok tt) (Ok tt))
      go true = refl
      go false = refl

  pub on_wrong : known_type (type_byte - 0x80) ≡ true → null ≡ false → (q n : ℕ) → part_of wrong ≡ Some (record { at = q; len = n }) → bad fault.WrongForm (q - 2) ≡ track_over type_byte is p
  unfolding track_over
  on_wrong k z q n = rw (k, z) (go wrong)
    where
      go : (x : Found) → part_of x ≡ Some (record { at = q; len = n }) → bad fault.WrongForm (q - 2) ≡ on_form x
      go missing e = absurd (let z : ◌≡◌ {A = ℕ} 0 1 = cc in omega arith)
      go (found r v) e = ap (λ (y : ℕ). bad fault.WrongForm (y - 2)) (sym (same_part r (length v) q n e).0)

-- a track's verdict: its items', or that of its end
pub track_refused : (type_byte : ℕ) (s : List ℕ) (p : ℕ) (r : Refusal) → verdict_of section.Track s p ≡ Err r → Err r ≡ track_verdict type_byte s p
unfolding track_verdict
track_refused type_byte s p r e = rw e

pub track_passed : (type_byte : ℕ) (s : List ℕ) (p : ℕ) → verdict_of section.Track s p ≡ (Ok tt) → track_over type_byte (section_of s).list p ≡ track_verdict type_byte s p
unfolding track_verdict
track_passed type_byte s p e = rw e

-- the name and either form are known items of a track
pub name_known : is_known (form_of section.Track 0x4C) ≡ true
unfolding form_of is_known
name_known = refl

pub form_known : (media_type : ℕ) → is_known (form_of section.Track (wrong_form media_type)) ≡ true
unfolding form_of is_known wrong_form
form_known media_type = go (mpeg_type media_type)
  where
    go : (b : Bool) → is_known (form_of section.Track (pick b 0x4D 0x4F)) ≡ true
    go true = refl
    go false = refl

-- the MPEG types by their ranges are those of the list
not_within : (a b t : ℕ) → b ≡ a + 1 → (t ≡ a → ⊥) → (t ≡ b → ⊥) → within a b t ≡ false
not_within a b t s m n = go (leb a t) refl
  where
    go : (x : Bool) → leb a t ≡ x → pick x (leb t b) false ≡ false
    go true e = let k = under t a (leb-true a t e) m in let l : b < t = under t b (omega arith) n in lt-leb t b l
    go false e = refl

mpeg_listed : (t : ℕ) → mpeg_type t ≡ has t mpeg_types
unfolding mpeg_type has
mpeg_listed t = go (eqb t 11) refl (eqb t 12) refl (eqb t 20) refl (eqb t 22) refl (eqb t 23) refl
  where
    go : (a : Bool) → eqb t 11 ≡ a → (b : Bool) → eqb t 12 ≡ b → (c : Bool) → eqb t 20 ≡ c → (d : Bool) → eqb t 22 ≡ d → (e : Bool) → eqb t 23 ≡ e
        → pick (within 11 12 t) true (pick c true (within 22 23 t)) ≡ pick a true (pick b true (pick c true (pick d true (pick e true false))))
    go true p b q c r d u e v = rw (eqb-true t 11 p)
    go false p true q c r d u e v = rw (eqb-true t 12 q)
    go false p false q true r d u e v = rw (not_within 11 12 t refl (eqb-false t 11 p) (eqb-false t 12 q))
    go false p false q false r true u e v = rw (eqb-true t 22 u)
    go false p false q false r false u true v = rw (eqb-true t 23 v)
    go false p false q false r false u false v = rw (not_within 11 12 t refl (eqb-false t 11 p) (eqb-false t 12 q), not_within 22 23 t refl (eqb-false t 22 u) (eqb-false t 23 v))

-- the wrong tag in words is the one that is sought
tag_sought : (media_type tag : ℕ) → WrongTag media_type tag → tag ≡ wrong_form media_type
unfolding wrong_form
tag_sought media_type tag = go (mpeg_type media_type) (mpeg_listed media_type)
  where
    go : (b : Bool) → b ≡ has media_type mpeg_types → WrongTag media_type tag → tag ≡ pick b 0x4D 0x4F
    go true e (inl (m, t)) = t
    go false e (inl (m, t)) = never (sym m ∙ sym e)
    go true e (inr (m, t)) = absurd (m (sym e))
    go false e (inr (m, t)) = t

sought_wrong : (media_type : ℕ) → WrongTag media_type (wrong_form media_type)
unfolding wrong_form
sought_wrong media_type = go (mpeg_type media_type) (mpeg_listed media_type)
  where
    go : (b : Bool) → b ≡ has media_type mpeg_types → WrongTag media_type (pick b 0x4D 0x4F)
    go true e = inl (sym e, refl)
    go false e = inr (λ m. never (sym m ∙ sym e), refl)

-- ---- a track whose items have passed
module _ (p : ℕ) (d : Description) (g : verdict_of section.Track d.items (p + 4) ≡ (Ok tt)) where
  abbrev is : List Item
  is = (section_of d.items).list

  good : judge_items section.Track [] (p + 4) is ≡ (Ok tt)
  good = (verdict_accepted section.Track d.items (p + 4) g).0

  -- an item of a known tag is found where it stands
  found_at : (tag : ℕ) → is_known (form_of section.Track tag) ≡ true → (i : Item) → i.tag ≡ tag → (n : ItemIn i is) → find tag (p + 4) is ≡ found (p + 4 + items_size n.before + 2) i.value
  found_at tag k i e n = rw n.split (found_there section.Track tag k [] (p + 4) n.before i n.after e (rw n.split at good))

  -- a null name is found as one, and what is found as one is one
  found_null : is_null (part_of (find 0x4C (p + 4) is)) ≡ true → ItemIn null_name is
  unfolding is_null form_of
  found_null = go (find 0x4C (p + 4) is) refl
    where
      go : (x : Found) → find 0x4C (p + 4) is ≡ x → is_null (part_of x) ≡ true → ItemIn null_name is
      go missing e h = never (sym h)
      go (found q v) e h =
          let s = stands 0x4C (p + 4) is q v e in
          let f = faultless section.Track [] (p + 4) s.before (record { tag = 0x4C; value = v }) s.after (rw s.split at good) in
          let z = lone_zero v f (eqb-true (length v) 1 h) in
          record { before = s.before; after = s.after; split = s.split ∙ ap (λ (w : List ℕ). s.before ++ (record { tag = 0x4C; value = w } ∷ s.after)) z }

  null_found : ItemIn null_name is → is_null (part_of (find 0x4C (p + 4) is)) ≡ true
  unfolding is_null
  null_found n = rw (found_at 0x4C name_known null_name refl n)

  -- 29 where the wrong form stands
  pub wrong_refused : (q : ℕ) → WrongAt p d q → track_over d.type_byte is (p + 4) ≡ bad fault.WrongForm q
  unfolding track_over is_listed
  wrong_refused q w = rw w.listed (go (is_null (part_of (find 0x4C (p + 4) is))) refl)
    where
      place : p + 4 + items_size w.among.before + 2 - 2 ≡ q
      place = omega (arith, w.place)

      go : (z : Bool) → is_null (part_of (find 0x4C (p + 4) is)) ≡ z → pick z (Ok tt) (on_form (find (wrong_form (d.type_byte - 0x80)) (p + 4) is)) ≡ bad fault.WrongForm q
      go true k = absurd (w.no_null_name (found_null k))
      go false k = rw (found_at (wrong_form (d.type_byte - 0x80)) (form_known (d.type_byte - 0x80)) w.item (tag_sought (d.type_byte - 0x80) w.item.tag w.form) w.among) (ap (bad fault.WrongForm) place)

  pub refused_wrong : (r : Refusal) → track_over d.type_byte is (p + 4) ≡ Err r → (r ≡ refusal fault.WrongForm r.place) × WrongAt p d r.place
  unfolding track_over is_listed
  refused_wrong r = go (known_type (d.type_byte - 0x80)) refl (is_null (part_of (find 0x4C (p + 4) is))) refl (find (wrong_form (d.type_byte - 0x80)) (p + 4) is) refl
    where
      go : (k : Bool) → known_type (d.type_byte - 0x80) ≡ k → (z : Bool) → is_null (part_of (find 0x4C (p + 4) is)) ≡ z
          → (x : Found) → find (wrong_form (d.type_byte - 0x80)) (p + 4) is ≡ x
          → pick k (pick z (Ok tt) (on_form x)) (Ok tt) ≡ Err r → (r ≡ refusal fault.WrongForm r.place) × WrongAt p d r.place
      go false k z n x f e = not_refused r e
      go true k true n x f e = not_refused r e
      go true k false n missing f e = not_refused r e
      go true k false n (found q v) f e =
          let s = stands (wrong_form (d.type_byte - 0x80)) (p + 4) is q v f in
          let a : refusal fault.WrongForm (q - 2) ≡ r = cc in
          rw (← a) (
            refl,
            record {
              listed = k;
              no_null_name = λ m. never (sym (null_found m) ∙ n);
              item = record { tag = wrong_form (d.type_byte - 0x80); value = v };
              form = sought_wrong (d.type_byte - 0x80);
              among = record { before = s.before; after = s.after; split = s.split };
              place = omega (arith, s.place);
            },
          )

  -- so the track's end passes just where the form is right
  pub over_right : track_over d.type_byte is (p + 4) ≡ (Ok tt) → RightForm p d
  over_right e q w = not_accepted fault.WrongForm q (sym (wrong_refused q w) ∙ e)

  pub right_over : RightForm p d → track_over d.type_byte is (p + 4) ≡ (Ok tt)
  right_over h = go (track_over d.type_byte is (p + 4)) refl
    where
      go : (v : Result ⊤ Refusal) → track_over d.type_byte is (p + 4) ≡ v → v ≡ (Ok tt)
      go (Ok _) e = refl
      go (Err r) e = absurd (h r.place (refused_wrong r e).1)
