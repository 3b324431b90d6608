-- A map is refused with 29 at its first wrong form, and nowhere else.
use Prim.Native.Nat.{ℕ, ◌+◌, ◌≤◌}
use mathlib.Core.Path.{◌≡◌, refl, ◌∙◌, subst}
use mathlib.Core.Bool.{Bool, true, false}
use mathlib.Core.List.{List, []}
use mathlib.Core.Logic.{◌⊎◌, inl, inr}
use native.Mathlib.Omega.{arith}
use lib.ListN.{length, get_or}
use lib.Dec.{ltb, eqb}
use borrow.Author.Tests.{le-ltb, eq-eqb, eqb-true}
use Rattle.std.specs.Prelude.{Result, Ok, Err, ⊤}
use Rattle.plate.specs.Plate.{number}
use Rattle.plate.specs.Choice.{pick}
use Rattle.plate.specs.Part.{part}
use Rattle.plate.specs.declared.Refusal.{Refusal}
use Rattle.map_items.specs.Judge.{bad, and_then, verdict_of}
use Rattle.map_items.specs.declared.Section.TheVariants as section
use Rattle.map_items.proofs.Numbers.{Own, section_own}
use Rattle.map_items.proofs.Places.{either_part}
use Rattle.map_tracks.specs.Tracks.{tracks_of, tracks_verdict}
use Rattle.map_tracks.specs.WrongForm.{judge_otherwise, Judged29}
use Rattle.map_tracks.proofs.Numbers.{OfMap}
use Rattle.map_tracks.proofs.WrongForm.{not_29, judged_29}
use Rattle.map.specs.Map.{layout_of, both_verdict, sections_verdict, map_verdict}
use Rattle.map.specs.WrongForm.{UpToTracks, tracks_there, WrongIn, WrongForm}
use Rattle.map.specs.declared.Layout.{Layout}
use Rattle.map.specs.declared.Layout.TheVariants.{Both, One, Neither}
use Rattle.plate.specs.declared.Fault.TheVariants as fault
use Rattle.map.proofs.Laws.{both_within}
use Rattle.map.proofs.Numbers.{verdict_own}

module _ (p : List ℕ) where
  -- the verdict on a map that passes up to its tracks is theirs
  to_tracks : (u : UpToTracks p) → map_verdict p ≡ tracks_verdict (part (u.a + 2) u.e p) (u.a + 2)
  unfolding map_verdict sections_verdict both_verdict
  to_tracks u =
      let w = both_within p u.a u.e u.layout in
      let l : 18 ≤ length p = omega (arith, w.0, w.1, w.2) in
      rw (le-ltb (length p) 18 l, eq-eqb (get_or p 16 0) 0xE0 u.version, u.layout, u.material)

  judged : (u : UpToTracks p) → Judged29 [] (u.a + 2) (tracks_of (part (u.a + 2) u.e p)).list (tracks_of (part (u.a + 2) u.e p)).end
  judged u = judged_29 [] (u.a + 2) (tracks_of (part (u.a + 2) u.e p)).list (tracks_of (part (u.a + 2) u.e p)).end

  given : (u : UpToTracks p) (q : ℕ) → WrongIn p u q → map_verdict p ≡ bad fault.WrongForm q
  unfolding tracks_verdict
  given u q w = to_tracks u ∙ (judged u).given q w

  otherwise : (u : UpToTracks p) → ((q : ℕ) → WrongIn p u q → ⊥) → map_verdict p ≡ judge_otherwise [] (u.a + 2) (tracks_there p u).list (tracks_there p u).end
  unfolding tracks_verdict
  otherwise u none = to_tracks u ∙ (judged u).otherwise none

  passes : (u : UpToTracks p) → judge_otherwise [] (u.a + 2) (tracks_there p u).list (tracks_there p u).end ≡ (Ok tt) → (map_verdict p ≡ (Ok tt)) ⊎ ((q : ℕ) × WrongIn p u q)
  passes u h = go (judged u).either
    where
      go : ((q : ℕ) × WrongIn p u q) ⊎ ((q : ℕ) → WrongIn p u q → ⊥) → (map_verdict p ≡ (Ok tt)) ⊎ ((q : ℕ) × WrongIn p u q)
      go (inl w) = inr w
      go (inr none) = inl (otherwise u none ∙ h)

  numbers : (r : Refusal) → map_verdict p ≡ Err r → ((7 ≤ number r) × (number r ≤ 12)) ⊎ (number r ≡ 29)
  numbers r e = go (verdict_own p r e)
    where
      go : OfMap 7 r → ((7 ≤ number r) × (number r ≤ 12)) ⊎ (number r ≡ 29)
      go (inl h) = inl (h.0, h.1)
      go (inr h) = inr (omega (arith, h.0, h.1))

  -- no other fault is 29: of the version, the length words, the material
  only : (r : Refusal) → number r ≡ 29 → map_verdict p ≡ Err r → (u : UpToTracks p) × WrongIn p u r.place
  unfolding map_verdict sections_verdict both_verdict tracks_verdict
  only r n = go (ltb (length p) 18) (eqb (get_or p 16 0) 0xE0) refl
    where
      material_29 : {X : Type 0} (a : ℕ) → verdict_of section.Material (part 20 a p) 20 ≡ Err r → X
      material_29 a e = absurd (let h = subst Own e (section_own section.Material (part 20 a p) 20) in omega (arith, h.1))

      both : (a e : ℕ) → layout_of p ≡ Both a e → get_or p 16 0 ≡ 0xE0 → (v : Result ⊤ Refusal) → verdict_of section.Material (part 20 a p) 20 ≡ v → and_then v (tracks_verdict (part (a + 2) e p) (a + 2)) ≡ Err r → (u : UpToTracks p) × WrongIn p u r.place
      both a e l v (Err q) m h = material_29 a (m ∙ h)
      both a e l v (Ok _) m h =
          let u : UpToTracks p = record { a = a; e = e; version = v; layout = l; material = m } in
          (u, (judged u).only r h n)

      on : (l : Layout) → layout_of p ≡ l → get_or p 16 0 ≡ 0xE0 → sections_verdict p l ≡ Err r → (u : UpToTracks p) × WrongIn p u r.place
      on Neither l v h = not_29 fault.Overhang 18 r (omega arith) h n
      on (One a) l v h = either_part (verdict_of section.Material (part 20 a p) 20) (bad fault.Overhang a) r h (λ e. material_29 a e) (λ e. not_29 fault.Overhang a r (omega arith) e n)
      on (Both a e) l v h = both a e l v (verdict_of section.Material (part 20 a p) 20) refl h

      go : (x y : Bool) → eqb (get_or p 16 0) 0xE0 ≡ y → pick x (bad fault.Overhang 16) (pick y (sections_verdict p (layout_of p)) (bad fault.MapVersion 16)) ≡ Err r → (u : UpToTracks p) × WrongIn p u r.place
      go true y q h = not_29 fault.Overhang 16 r (omega arith) h n
      go false true q h = on (layout_of p) refl (eqb-true _ _ q) h
      go false false q h = not_29 fault.MapVersion 16 r (omega arith) h n

  pub wrong_form_lem : WrongForm p
  wrong_form_lem =
      record {
        given = given;
        only = λ r h n. only r n h;
        otherwise = otherwise;
        either = λ u. (judged u).either;
        passes = passes;
        numbers = numbers;
      }
