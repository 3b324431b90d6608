-- The laws of slots and tracks as they are given, one after another, and of their faults.
use Prim.Native.Nat.{ℕ, zero, suc, ◌+◌, ◌-◌, ◌*◌, ◌/◌, ◌<◌, ◌≤◌}
use mathlib.Core.Path.{◌≡◌, refl, sym, ◌∙◌, ap}
use mathlib.Core.Bool.{Bool, true, false}
use mathlib.Core.List.{List, [], ◌∷◌, ◌++◌}
use native.Mathlib.Omega.{arith}
use borrow.Author.Tests.{lt-ltb, le-ltb, ltb-true, ltb-false, le-leb, lt-leb, leb-true, leb-false, ne_eqb, eq-eqb}
use lib.ListN.{length, get_or, take, drop, length-drop, get_or-append, length-append}
use lib.Seq.{length-take-le, take_all}
use Rattle.std.proofs.lemmas.Option.{none-some}
use Rattle.std.proofs.lemmas.List.{get_or-append-add, take-append-drop}
use lib.Dec.{ltb, leb, eqb}
use Rattle.std.specs.List.{AllWithin, HoldsAt}
use Rattle.std.specs.Bool.{MatchBool}
use mathlib.Core.Logic.{◌⊎◌, inl, inr}
use Rattle.std.specs.Prelude.{Option, Some, None}
use Rattle.plate.specs.Choice.{pick}
use Rattle.plate.specs.Plate.{number_of}
use Rattle.plate.specs.declared.Fault.{Fault}
use Rattle.text.specs.Text.{text_ok}
use Rattle.media_type.specs.MediaType.{mpeg_type, wrong_form}
use Rattle.map_items.specs.Judge.{has}
use Rattle.map_answer.specs.Answer.{allowed}
use Rattle.map_given.specs.declared.Slot.{Slot}
use Rattle.map_given.specs.Given.{slot_at, slots, Given, track_at, tracks_from, tracks_given}
use Rattle.map_given.specs.Faults.{is_text, fits, slot_fault, graver, slots_fault, given, null_name, own_fault, tracks_fault, given_wrong, any_wrong}

-- a text that fits lies in the lent text, and is short enough
pub text_fits : (text : List ℕ) (s : Slot) → is_text s.tag ≡ true → fits text s ≡ true → (s.first + s.second ≤ length text) × (s.second ≤ 254)
unfolding fits
text_fits text s e = rw e (go (ltb 254 s.second) refl)
  where
    go : (x : Bool) → ltb 254 s.second ≡ x → pick x false (leb (s.first + s.second) (length text)) ≡ true → (s.first + s.second ≤ length text) × (s.second ≤ 254)
    go true f g = absurd (let z : ◌≡◌ {A = Bool} false true = g in let y : ◌≡◌ {A = ℕ} 0 1 = cc in omega arith)
    go false f g = (leb-true _ _ g, omega (arith, ltb-false))

-- text byte by byte, its 00 behind it
pub text_cons : (x : ℕ) (r : List ℕ) → text_ok (x ∷ (r ++ (0 ∷ []))) ≡ pick (eqb x 0) false (pick (ltb x 0x80) (text_ok (r ++ (0 ∷ []))) false)
unfolding text_ok
text_cons x [] = refl
text_cons x (y ∷ r) = refl

-- a byte that a text may have before its 00, and one that it may not
abbrev pub Plain : ℕ → Type 0
Plain x = (1 ≤ x) × (x ≤ 0x7F)

abbrev pub NotPlain : ℕ → Type 0
NotPlain x = (x < 1) ⊎ (0x7F < x)

all_plain : (v : List ℕ) → AllWithin Plain v 0 (length v) → true ≡ text_ok (v ++ (0 ∷ []))
unfolding text_ok
all_plain [] h = refl
all_plain (x ∷ r) h =
    let p = h 0 0 (omega arith) (omega arith) in
    sym (text_cons x r ∙ simp (ne_eqb x 0 (λ e. omega (arith, p.0)), lt-ltb x 0x80 (omega (arith, p.1))) (sym (all_plain r (λ k d a b. h (suc k) d (omega arith) (omega arith)))))

not_plain : (v : List ℕ) (k : ℕ) → k < length v → HoldsAt NotPlain v k → false ≡ text_ok (v ++ (0 ∷ []))
not_plain [] k l h = absurd (omega arith)
not_plain (x ∷ r) zero l h = sym (text_cons x r ∙ go (h 0))
  where
    go : NotPlain x → pick (eqb x 0) false (pick (ltb x 0x80) (text_ok (r ++ (0 ∷ []))) false) ≡ false
    go (inl a) = simp (eq-eqb x 0 (omega arith))
    go (inr b) = simp (ne_eqb x 0 (λ e. omega arith), le-ltb x 0x80 (omega arith))
not_plain (x ∷ r) (suc k) l h = sym (text_cons x r ∙ rw (← not_plain r k (omega arith) h) (go (eqb x 0) (ltb x 0x80)))
  where
    go : (a b : Bool) → pick a false (pick b false false) ≡ false
    go true b = refl
    go false true = refl
    go false false = refl

pub plain_text : (v : List ℕ) (r : Bool) → MatchBool r (AllWithin Plain v 0 (length v)) ((k : ℕ) × (k < length v) × HoldsAt NotPlain v k) → r ≡ text_ok (v ++ (0 ∷ []))
plain_text v true h = all_plain v h
plain_text v false h = not_plain v h.0 h.1 h.2

-- no code of Table 6 is over 8
none_either : (x : Bool) → pick x false false ≡ false
none_either true = refl
none_either false = refl

pub over_allowed : (tag n : ℕ) → 8 < n → allowed tag n ≡ false
unfolding allowed has
over_allowed tag n h =
    simp (le-leb 1 n (omega arith), lt-leb n 8 (omega arith), ne_eqb n 1 (λ e. omega arith), ne_eqb n 2 (λ e. omega arith), ne_eqb n 4 (λ e. omega arith), ne_eqb n 6 (λ e. omega arith), none_either)

pub allowed_over : (tag n : ℕ) → allowed tag n ≡ true → n ≤ 8
allowed_over tag n e = go (leb n 8) refl
  where
    go : (b : Bool) → leb n 8 ≡ b → n ≤ 8
    go true q = leb-true n 8 q
    go false q = absurd (let z : false ≡ true = sym (over_allowed tag n (leb-false n 8 q)) ∙ e in let y : ◌≡◌ {A = ℕ} 0 1 = cc in omega arith)

-- a fault is not none
pub no_fault : {X : Type 0} {f : Fault} → Some f ≡ None → X
no_fault {X} {f} e = absurd (none-some f (sym e))

-- the graver of two
pub graver_lt : (f g : Fault) → number_of f < number_of g → graver (Some f) (Some g) ≡ Some g
graver_lt f g h = rw (lt-ltb (number_of f) (number_of g) h)

pub graver_le : (f g : Fault) → number_of g ≤ number_of f → graver (Some f) (Some g) ≡ Some f
graver_le f g h = rw (le-ltb (number_of f) (number_of g) h)

pub graver_assoc : (a b d : Option Fault) → graver (graver a b) d ≡ graver a (graver b d)
graver_assoc None b d = refl
graver_assoc (Some f) None d = refl
graver_assoc (Some f) (Some g) None = refl
graver_assoc (Some f) (Some g) (Some h) = go (ltb (number_of f) (number_of g)) refl (ltb (number_of g) (number_of h)) refl
  where
    go : (x : Bool) → ltb (number_of f) (number_of g) ≡ x → (y : Bool) → ltb (number_of g) (number_of h) ≡ y
        → graver (Some (pick x g f)) (Some h) ≡ graver (Some f) (Some (pick y h g))
    go true e true k = graver_lt g h (ltb-true _ _ k) ∙ sym (graver_lt f h (omega (arith, ltb-true)))
    go true e false k = graver_le g h (omega (arith, ltb-false)) ∙ sym (graver_lt f g (ltb-true _ _ e))
    go false e true k = refl
    go false e false k = graver_le f h (omega (arith, ltb-false)) ∙ sym (graver_le f g (omega (arith, ltb-false)))

-- no fault is graver than none
pub graver_none : (a : Option Fault) → graver a None ≡ a
graver_none None = refl
graver_none (Some f) = refl

pub none_graver : (a b : Option Fault) → graver a b ≡ None → (a ≡ None) × (b ≡ None)
none_graver None b e = (refl, e)
none_graver (Some f) None e = no_fault e
none_graver (Some f) (Some g) e = no_fault e

-- one slot and the rest, one track and the rest
pub slots_more : (n : ℕ) (ws : List ℕ) (at tag : ℕ) → 0 < n → slots n ws at tag ≡ slot_at ws at tag ∷ slots (n - 1) ws (at + 3) (tag + 1)
unfolding slots
slots_more zero ws at tag h = absurd (omega arith)
slots_more (suc n) ws at tag h = let e : suc n - 1 ≡ n = omega arith in rw e

pub no_slots : (n : ℕ) (ws : List ℕ) (at tag : ℕ) → n ≤ 0 → slots n ws at tag ≡ []
unfolding slots
no_slots zero ws at tag h = refl
no_slots (suc n) ws at tag h = absurd (omega arith)

-- slots in front of more words, and behind others
slots_front : (x r : List ℕ) (n at tag : ℕ) → at + 3 * n ≤ length x → slots n (x ++ r) at tag ≡ slots n x at tag
unfolding slots
slots_front x r zero at tag h = refl
slots_front x r (suc n) at tag h =
    rw (
      get_or-append x r 0 at (omega arith),
      get_or-append x r 0 (at + 1) (omega arith),
      get_or-append x r 0 (at + 2) (omega arith),
      slots_front x r n (at + 3) (tag + 1) (omega arith),
    )

slots_behind : (x r : List ℕ) (n at to tag : ℕ) → to ≡ length x + at → slots n (x ++ r) to tag ≡ slots n r at tag
unfolding slots
slots_behind x r zero at to tag e = refl
slots_behind x r (suc n) at to tag e =
    let a : to + 1 ≡ length x + (at + 1) = omega arith in
    let b : to + 2 ≡ length x + (at + 2) = omega arith in
    rw (a, b, e, get_or-append-add x r at 0, get_or-append-add x r (at + 1) 0, get_or-append-add x r (at + 2) 0, slots_behind x r n (at + 3) (length x + at + 3) (tag + 1) (omega arith))

-- a track's slots begin behind its type and its ID
pub track_slots : (x : List ℕ) (tag : ℕ) → length x ≡ 23 → slots (length (take (length x - 2) (drop 2 x)) / 3) (take (length x - 2) (drop 2 x)) 0 tag ≡ slots 7 x 2 tag
track_slots x tag l =
    let k : length (drop 2 x) ≤ length x - 2 = simp length-drop (omega arith) in
    let n : length (drop 2 x) / 3 ≡ 7 = simp length-drop (omega arith) in
    let e : length (take 2 x) ≡ 2 = length-take-le 2 x (omega arith) in
    rw (take_all (length x - 2) (drop 2 x) k, n) (sym (rw (take-append-drop 2 x) at (slots_behind (take 2 x) (drop 2 x) 7 0 2 tag (omega arith))))

track_front : (x r : List ℕ) → length x ≡ 23 → track_at (x ++ r) 0 ≡ track_at x 0
track_front x r l = rw (get_or-append x r 0 0 (omega arith), get_or-append x r 0 1 (omega arith), slots_front x r 7 2 0x4C (omega arith))

track_behind : (x r : List ℕ) (at to : ℕ) → to ≡ length x + at → track_at (x ++ r) to ≡ track_at r at
track_behind x r at to e =
    let a : to + 1 ≡ length x + (at + 1) = omega arith in
    rw (a, slots_behind x r 7 (at + 2) (to + 2) 0x4C (omega arith), e, get_or-append-add x r at 0, get_or-append-add x r (at + 1) 0)

tracks_behind : (x r : List ℕ) (n at to : ℕ) → to ≡ length x + at → tracks_from n (x ++ r) to ≡ tracks_from n r at
unfolding tracks_from
tracks_behind x r zero at to e = refl
tracks_behind x r (suc n) at to e =
    ap (λ (t : Given). t ∷ tracks_from n (x ++ r) (to + 23)) (track_behind x r at to e) ∙ ap (λ (l : List Given). track_at r at ∷ l) (tracks_behind x r n (at + 23) (to + 23) (omega arith))

-- one track and the rest, and no track
pub tracks_more : (x r : List ℕ) → length x ≡ 23 → tracks_given (x ++ r) ≡ track_at x 0 ∷ tracks_given r
unfolding tracks_from
tracks_more x r l =
    let n : length (x ++ r) / 23 ≡ suc (length r / 23) = omega (arith, length-append x r) in
    rw (n, track_front x r l, tracks_behind x r (length r / 23) 0 23 (omega arith))

pub no_tracks : (r : List ℕ) → length r < 23 → tracks_given r ≡ []
unfolding tracks_from
no_tracks r h = let n : length r / 23 ≡ 0 = omega arith in rw n

-- the gravest fault so far and that of the rest
pub slots_fault_turn : (text ws : List ℕ) (n at tag : ℕ) (whole worst f : Option Fault) → 0 < n → whole ≡ graver worst (slots_fault text (slots n ws at tag)) → f ≡ slot_fault text (slot_at ws at tag)
    → whole ≡ graver (graver worst f) (slots_fault text (slots (n - 1) ws (at + 3) (tag + 1)))
unfolding slots_fault
slots_fault_turn text ws n at tag whole worst f h e g =
    e ∙ rw (slots_more n ws at tag h, ← g) (sym (graver_assoc worst f (slots_fault text (slots (n - 1) ws (at + 3) (tag + 1)))))

pub slots_fault_out : (text ws : List ℕ) (n at tag : ℕ) (whole worst : Option Fault) → n ≤ 0 → whole ≡ graver worst (slots_fault text (slots n ws at tag)) → worst ≡ whole
unfolding slots_fault
slots_fault_out text ws n at tag whole worst h e = sym (e ∙ rw (no_slots n ws at tag h) (graver_none worst))

pub tracks_fault_turn : (text x r : List ℕ) (whole worst f g : Option Fault) → length x ≡ 23 → whole ≡ graver worst (tracks_fault text (tracks_given (x ++ r)))
    → f ≡ own_fault (track_at x 0) → g ≡ slots_fault text (track_at x 0).slots
    → whole ≡ graver (graver worst (graver f g)) (tracks_fault text (tracks_given r))
unfolding tracks_fault
tracks_fault_turn text x r whole worst f g l e k m =
    e ∙ rw (tracks_more x r l, ← k, ← m) (sym (graver_assoc worst (graver f g) (tracks_fault text (tracks_given r))))

pub tracks_fault_out : (text r : List ℕ) (whole worst : Option Fault) → length r < 23 → whole ≡ graver worst (tracks_fault text (tracks_given r)) → worst ≡ whole
unfolding tracks_fault
tracks_fault_out text r whole worst h e = sym (e ∙ rw (no_tracks r h) (graver_none worst))

-- what a track's record says of null names and auxiliary items, word by word
module _ (ts : List ℕ) (at : ℕ) where
  pub gives_4_d : given 0x4D (track_at ts at).slots ≡ eqb (get_or ts (at + 5) 0) 1
  unfolding given slots
  gives_4_d = let e : at + 2 + 3 ≡ at + 5 = omega arith in rw e

  pub gives_4_e : given 0x4E (track_at ts at).slots ≡ eqb (get_or ts (at + 8) 0) 1
  unfolding given slots
  gives_4_e = let e : at + 2 + 3 + 3 ≡ at + 8 = omega arith in rw e

  pub gives_4_f : given 0x4F (track_at ts at).slots ≡ eqb (get_or ts (at + 11) 0) 1
  unfolding given slots
  gives_4_f = let e : at + 2 + 3 + 3 + 3 ≡ at + 11 = omega arith in rw e

  pub names_null : null_name (track_at ts at).slots ≡ pick (eqb (get_or ts (at + 2) 0) 1) (eqb (get_or ts (at + 2 + 2) 0) 0) false
  unfolding null_name slots
  names_null = refl

  -- the wrong form, by the type
  pub wrong_of_mpeg : mpeg_type (get_or ts at 0) ≡ true → eqb (get_or ts (at + 5) 0) 1 ≡ given_wrong (track_at ts at)
  unfolding given_wrong wrong_form
  wrong_of_mpeg e = sym (rw e gives_4_d)

  pub wrong_of_other : mpeg_type (get_or ts at 0) ≡ false → eqb (get_or ts (at + 11) 0) 1 ≡ given_wrong (track_at ts at)
  unfolding given_wrong wrong_form
  wrong_of_other e = sym (rw e gives_4_f)

-- whether any track is given one, a track at a time
pub any_wrong_more : (x r : List ℕ) (b : Bool) → length x ≡ 23 → given_wrong (track_at x 0) ≡ b → any_wrong (tracks_given (x ++ r)) ≡ pick b true (any_wrong (tracks_given r))
unfolding any_wrong
any_wrong_more x r b l e = rw (tracks_more x r l, e)

pub any_wrong_out : (r : List ℕ) → length r < 23 → any_wrong (tracks_given r) ≡ false
unfolding any_wrong
any_wrong_out r h = rw (no_tracks r h)

-- the IDs, kept as flags
abbrev pub Keeps : List Bool → List ℕ → Type 0
Keeps flags ids = (k : ℕ) → k < 64 → get_or flags k false ≡ has k ids
