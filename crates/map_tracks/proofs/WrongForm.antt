-- 29 is given at the first wrong form of a section's tracks, and nowhere else.
use Prim.Native.Nat.{ℕ, ◌+◌, ◌≤◌}
use mathlib.Core.Path.{◌≡◌, refl, sym, ◌∙◌, ap, subst}
use mathlib.Core.Bool.{Bool, true, false}
use mathlib.Core.List.{List, [], ◌∷◌}
use mathlib.Core.Logic.{◌⊎◌, inl, inr}
use native.Mathlib.Omega.{arith}
use lib.Dec.{eqb, ltb}
use borrow.Author.Tests.{le-ltb, ltb-false, eqb-true, eqb-false}
use Rattle.std.specs.Prelude.{Result, Ok, Err, ⊤}
use Rattle.plate.specs.Choice.{pick}
use Rattle.plate.specs.Plate.{refusal, number, number_of}
use Rattle.plate.specs.declared.Refusal.{Refusal}
use Rattle.map_items.specs.Items.{section_of}
use Rattle.map_items.specs.Judge.{bad, and_then, has, verdict_of}
use Rattle.map_items.specs.declared.Section.TheVariants as section
use Rattle.plate.specs.declared.Fault.TheVariants as fault
use Rattle.map_items.proofs.Anywhere.{not_accepted}
use Rattle.map_items.proofs.Places.{not_refused}
use Rattle.map_items.proofs.Numbers.{Own, section_own}
use Rattle.map_tracks.specs.Tracks.{Description, End, over, short, hangs, on_bytes, track_over, track_verdict, end_verdict, judge_tracks}
use Rattle.map_tracks.specs.WrongForm.{RightForm, Otherwise, behind, FirstWrong, judge_otherwise, Judged29}
use Rattle.map_tracks.proofs.Anywhere.{by_bytes}
use Rattle.map_tracks.proofs.Form.{wrong_refused, refused_wrong, over_right, right_over}
use Rattle.plate.specs.declared.Fault.{Fault}

-- what a track that passes otherwise leaves to say: its form, then the tracks behind it
pub to_form : (ids : List ℕ) (p : ℕ) (d : Description) (ds : List Description) (e : End) → Otherwise ids p d
    → judge_tracks ids p (d ∷ ds) e ≡ and_then (track_over d.type_byte (section_of d.items).list (p + 4)) (judge_tracks (d.id ∷ ids) (behind p d) ds e)
unfolding judge_tracks track_verdict
to_form ids p d ds e o = rw (le-ltb d.type_byte 0x80 o.type_byte, le-ltb d.id 0xC0 o.id, o.fresh, o.items)

to_next : (ids : List ℕ) (p : ℕ) (d : Description) (ds : List Description) (e : End) → Otherwise ids p d → RightForm p d
    → judge_tracks ids p (d ∷ ds) e ≡ judge_tracks (d.id ∷ ids) (behind p d) ds e
to_next ids p d ds e o h = to_form ids p d ds e o ∙ rw (right_over p d o.items h)

given : (ids : List ℕ) (p : ℕ) (ds : List Description) (e : End) (q : ℕ) → FirstWrong ids p ds q → judge_tracks ids p ds e ≡ bad fault.WrongForm q
given ids p [] e q f = absurd f
given ids p (d ∷ ds) e q (o, inl w) = to_form ids p d ds e o ∙ rw (wrong_refused p d o.items q w)
given ids p (d ∷ ds) e q (o, inr (h, f)) = to_next ids p d ds e o h ∙ given (d.id ∷ ids) (behind p d) ds e q f

-- no other fault is 29: of a header, of an ID, of the items, of the end
pub not_29 : {X : Type 0} (f : Fault) (p : ℕ) (r : Refusal) → number_of f ≤ 12 → bad f p ≡ Err r → number r ≡ 29 → X
not_29 f p r l e k = let a : refusal f p ≡ r = cc in absurd (let z : number_of f ≡ 29 = ap (λ (x : Refusal). (number x)) a ∙ k in omega arith)

bytes_29 : {X : Type 0} (k i p : ℕ) (next : Result ⊤ Refusal) (r : Refusal) → number r ≡ 29 → on_bytes k i p next ≡ Err r → (0x80 ≤ k → 0xC0 ≤ i → next ≡ Err r → X) → X
bytes_29 k i p next r n e f = by_bytes k i p next (Err r) e (λ h. not_29 fault.TypeOrId p r (omega arith) h n) f

end_29 : {X : Type 0} (p : ℕ) (e : End) (r : Refusal) → number r ≡ 29 → end_verdict p e ≡ Err r → X
unfolding end_verdict
end_29 p over r n e = not_refused r e
end_29 p short r n e = not_29 fault.Overhang p r (omega arith) e n
end_29 p (hangs k i) r n e = bytes_29 k i p (bad fault.Overhang p) r n e (λ a b f. not_29 fault.Overhang p r (omega arith) f n)

items_29 : {X : Type 0} (s : List ℕ) (p : ℕ) (r : Refusal) → number r ≡ 29 → verdict_of section.Track s p ≡ Err r → X
items_29 s p r n e = absurd (let h = subst Own e (section_own section.Track s p) in omega (arith, h.1))

only : (ids : List ℕ) (p : ℕ) (ds : List Description) (e : End) (r : Refusal) → number r ≡ 29 → judge_tracks ids p ds e ≡ Err r → FirstWrong ids p ds r.place
unfolding judge_tracks track_verdict
only ids p [] e r n h = end_29 p e r n h
only ids p (d ∷ ds) e r n h =
    bytes_29 d.type_byte d.id p _ r n h
    (λ a b f. fresh (has d.id ids) refl a b f (λ g. only (d.id ∷ ids) (behind p d) ds e r n g))
  where
    items : (v : Result ⊤ Refusal) → verdict_of section.Track d.items (p + 4) ≡ v → has d.id ids ≡ false → 0x80 ≤ d.type_byte → 0xC0 ≤ d.id
        → and_then (and_then v (track_over d.type_byte (section_of d.items).list (p + 4))) (judge_tracks (d.id ∷ ids) (behind p d) ds e) ≡ Err r
        → (judge_tracks (d.id ∷ ids) (behind p d) ds e ≡ Err r → FirstWrong (d.id ∷ ids) (behind p d) ds r.place)
        → FirstWrong ids p (d ∷ ds) r.place
    items (Err q) g f a b h later = items_29 d.items (p + 4) r n (g ∙ h)
    items (Ok _) g f a b h later = end (track_over d.type_byte (section_of d.items).list (p + 4)) refl h
      where
        o : Otherwise ids p d
        o = record { type_byte = a; id = b; fresh = f; items = g }

        end : (w : Result ⊤ Refusal) → track_over d.type_byte (section_of d.items).list (p + 4) ≡ w → and_then w (judge_tracks (d.id ∷ ids) (behind p d) ds e) ≡ Err r → FirstWrong ids p (d ∷ ds) r.place
        end (Ok _) k h = (o, inr (over_right p d g k, later h))
        end (Err q) k h = (o, inl (refused_wrong p d g r (k ∙ h)).1)

    fresh : (z : Bool) → has d.id ids ≡ z → 0x80 ≤ d.type_byte → 0xC0 ≤ d.id
        → pick z (bad fault.Twice p) (and_then (and_then (verdict_of section.Track d.items (p + 4)) (track_over d.type_byte (section_of d.items).list (p + 4))) (judge_tracks (d.id ∷ ids) (behind p d) ds e)) ≡ Err r
        → (judge_tracks (d.id ∷ ids) (behind p d) ds e ≡ Err r → FirstWrong (d.id ∷ ids) (behind p d) ds r.place)
        → FirstWrong ids p (d ∷ ds) r.place
    fresh true q a b h later = not_29 fault.Twice p r (omega arith) h n
    fresh false q a b h later = items (verdict_of section.Track d.items (p + 4)) refl q a b h later

-- without a wrong form the verdict is what it was
otherwise : (ids : List ℕ) (p : ℕ) (ds : List Description) (e : End) → ((q : ℕ) → FirstWrong ids p ds q → ⊥) → judge_tracks ids p ds e ≡ judge_otherwise ids p ds e
unfolding judge_tracks judge_otherwise track_verdict
otherwise ids p [] e none = refl
otherwise ids p (d ∷ ds) e none =
    go (ltb d.type_byte 0x80) refl (ltb d.id 0xC0) refl (has d.id ids) refl (verdict_of section.Track d.items (p + 4)) refl (λ h. otherwise (d.id ∷ ids) (behind p d) ds e h)
  where
    form : Otherwise ids p d → (w : Result ⊤ Refusal) → track_over d.type_byte (section_of d.items).list (p + 4) ≡ w
        → (((q : ℕ) → FirstWrong (d.id ∷ ids) (behind p d) ds q → ⊥) → judge_tracks (d.id ∷ ids) (behind p d) ds e ≡ judge_otherwise (d.id ∷ ids) (behind p d) ds e)
        → and_then w (judge_tracks (d.id ∷ ids) (behind p d) ds e) ≡ judge_otherwise (d.id ∷ ids) (behind p d) ds e
    form o (Ok _) k later = later (λ q f. none q (o, inr (over_right p d o.items k, f)))
    form o (Err r) k later = absurd (none r.place (o, inl (refused_wrong p d o.items r k).1))

    go : (a : Bool) → ltb d.type_byte 0x80 ≡ a → (b : Bool) → ltb d.id 0xC0 ≡ b → (c : Bool) → has d.id ids ≡ c → (v : Result ⊤ Refusal) → verdict_of section.Track d.items (p + 4) ≡ v
        → (((q : ℕ) → FirstWrong (d.id ∷ ids) (behind p d) ds q → ⊥) → judge_tracks (d.id ∷ ids) (behind p d) ds e ≡ judge_otherwise (d.id ∷ ids) (behind p d) ds e)
        → pick a (bad fault.TypeOrId p) (pick b (bad fault.TypeOrId p) (pick c (bad fault.Twice p) (and_then (and_then v (track_over d.type_byte (section_of d.items).list (p + 4))) (judge_tracks (d.id ∷ ids) (behind p d) ds e))))
        ≡ pick a (bad fault.TypeOrId p) (pick b (bad fault.TypeOrId p) (pick c (bad fault.Twice p) (and_then v (judge_otherwise (d.id ∷ ids) (behind p d) ds e))))
    go true k b l c m v n later = refl
    go false k true l c m v n later = refl
    go false k false l true m v n later = refl
    go false k false l false m (Err r) n later = refl
    go false k false l false m (Ok _) n later =
        form (record { type_byte = ltb-false _ _ k; id = ltb-false _ _ l; fresh = m; items = n }) (track_over d.type_byte (section_of d.items).list (p + 4)) refl later

-- by the verdict: it is 29, or it is not
either : (ids : List ℕ) (p : ℕ) (ds : List Description) (e : End) → ((q : ℕ) × FirstWrong ids p ds q) ⊎ ((q : ℕ) → FirstWrong ids p ds q → ⊥)
either ids p ds e = go (judge_tracks ids p ds e) refl
  where
    by_number : (r : Refusal) → judge_tracks ids p ds e ≡ Err r → (b : Bool) → eqb (number r) 29 ≡ b → ((q : ℕ) × FirstWrong ids p ds q) ⊎ ((q : ℕ) → FirstWrong ids p ds q → ⊥)
    by_number r h true k = inl (r.place, only ids p ds e r (eqb-true _ _ k) h)
    by_number r h false k = inr (λ q f. eqb-false _ _ k (let g = given ids p ds e q f in let a : refusal fault.WrongForm q ≡ r = cc in sym (ap (λ (x : Refusal). (number x)) a)))

    go : (v : Result ⊤ Refusal) → judge_tracks ids p ds e ≡ v → ((q : ℕ) × FirstWrong ids p ds q) ⊎ ((q : ℕ) → FirstWrong ids p ds q → ⊥)
    go (Ok _) h = inr (λ q f. not_accepted fault.WrongForm q (sym (given ids p ds e q f) ∙ h))
    go (Err r) h = by_number r h (eqb (number r) 29) refl

pub judged_29 : (ids : List ℕ) (p : ℕ) (ds : List Description) (e : End) → Judged29 ids p ds e
judged_29 ids p ds e =
    record {
      given = given ids p ds e;
      only = λ r h n. only ids p ds e r n h;
      otherwise = otherwise ids p ds e;
      either = either ids p ds e;
    }
