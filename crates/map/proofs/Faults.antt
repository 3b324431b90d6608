-- The place of a map's fault stands in its packet.
use Prim.Native.Nat.{ℕ, ◌+◌, ◌≤◌}
use mathlib.Core.Path.{◌≡◌, refl}
use mathlib.Core.Bool.{Bool, true, false}
use mathlib.Core.List.{List}
use native.Mathlib.Omega.{arith}
use lib.ListN.{length, get_or}
use lib.Dec.{ltb, eqb}
use borrow.Author.Tests.{ltb-false}
use Rattle.std.specs.Prelude.{Err}
use Rattle.plate.specs.Choice.{pick}
use Rattle.plate.specs.declared.Refusal.{Refusal}
use Rattle.map_items.specs.Judge.{bad, verdict_of}
use Rattle.map_items.specs.declared.Section.TheVariants as section
use Rattle.map_items.proofs.Places.{at_place, either_part}
use Rattle.map_items.proofs.Places as items
use Rattle.map_tracks.specs.Tracks.{tracks_verdict}
use Rattle.map_tracks.proofs.Faults as tracks
use Rattle.map.specs.Map.{layout_of, both_verdict, sections_verdict, map_verdict}
use Rattle.plate.specs.Part.{part}
use Rattle.map.specs.declared.Layout.{Layout}
use Rattle.map.specs.declared.Layout.TheVariants.{Both, One, Neither}
use Rattle.plate.specs.declared.Fault.TheVariants as fault
use Rattle.map.proofs.Laws.{Within, layout_within, part_length}

sections_place : (p : List ℕ) (l : Layout) (r : Refusal) → 18 ≤ length p → Within (length p) l → sections_verdict p l ≡ Err r → r.place ≤ length p
unfolding sections_verdict both_verdict
sections_place p Neither r h w e = omega (arith, at_place fault.Overhang 18 r e)
sections_place p (One a) r h w e =
    either_part (verdict_of section.Material (part 20 a p) 20) (bad fault.Overhang a) r e
    (λ f. omega (arith, items.place_within section.Material (part 20 a p) 20 r f, part_length 20 a p, w.0, w.1))
    (λ f. omega (arith, at_place fault.Overhang a r f, w.1))
sections_place p (Both a e) r h w q =
    either_part (verdict_of section.Material (part 20 a p) 20) (tracks_verdict (part (a + 2) e p) (a + 2)) r q
    (λ f. omega (arith, items.place_within section.Material (part 20 a p) 20 r f, part_length 20 a p, w.0, w.1, w.2))
    (λ f. omega (arith, tracks.place_within (part (a + 2) e p) (a + 2) r f, part_length (a + 2) e p, w.0, w.1, w.2))

pub place_within : (p : List ℕ) (r : Refusal) → 16 ≤ length p → map_verdict p ≡ Err r → r.place ≤ length p
unfolding map_verdict
place_within p r h = go (ltb (length p) 18) (eqb (get_or p 16 0) 0xE0) refl
  where
    go : (a b : Bool) → ltb (length p) 18 ≡ a → pick a (bad fault.Overhang 16) (pick b (sections_verdict p (layout_of p)) (bad fault.MapVersion 16)) ≡ Err r → r.place ≤ length p
    go true b q e = omega (arith, at_place fault.Overhang 16 r e)
    go false true q e = sections_place p (layout_of p) r (ltb-false _ _ q) (layout_within p) e
    go false false q e = omega (arith, at_place fault.MapVersion 16 r e)
