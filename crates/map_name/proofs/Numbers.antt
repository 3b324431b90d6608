-- What the header is refused with, a name is refused with, and its 5 is the header's; of two maps, the opening one's first.
use Prim.Native.Nat.{ℕ}
use mathlib.Core.Path.{◌≡◌, refl, ◌∙◌, ap, subst}
use mathlib.Core.List.{List}
use mathlib.Core.Logic.{◌⊎◌, inl, inr}
use native.Mathlib.Omega.{arith}
use lib.ListN.{take}
use Rattle.std.specs.Prelude.{Option, Some, None, Result, Ok, Err, ⊤}
use Rattle.plate.specs.Plate.{refusal}
use Rattle.plate.specs.declared.Refusal.{Refusal}
use Rattle.plate.proofs.Numbers.{Among, other}
use Rattle.packet.specs.Packet.{header_at}
use Rattle.packet.specs.Lacking.{PassedOn}
use Rattle.packet.proofs.Torn.{type_passes, passed_by}
use Rattle.map.specs.Map.{map_verdict}
use Rattle.map.proofs.Numbers.{verdict_refused}
use Rattle.map_name.specs.Name.{if_accepted, if_whole, opened_of, name_in, or_not_there, in_opened, name_at, or_else, in_two, name_of_two_at}
use Rattle.map_name.specs.declared.OfTwo.TheVariants as two
use Rattle.map_items.specs.declared.Part.{Part}
use Rattle.plate.specs.declared.Fault.TheVariants as fault

-- ---- the map that is opened
pub opened_passes : (s : List ℕ) (r : Refusal) → header_at s 0 ≡ Err r → opened_of s ≡ Err r
unfolding opened_of
opened_passes s r e = rw (type_passes s 0 0xBC r e)

pub opened_passed : (s : List ℕ) (r : Refusal) → opened_of s ≡ Err r → PassedOn s 0 r
unfolding opened_of
opened_passed s r = passed_by (if_whole s) (Err r) s 0 0xBC r (omega arith) (λ q e. cc) (λ w e. own w.len (take w.len s) (map_verdict (take w.len s)) refl e)
  where
    own : (n : ℕ) (p : List ℕ) (v : Result ⊤ Refusal) → map_verdict p ≡ v → if_accepted n v ≡ Err r → Among 7 29 r
    own n p (Ok _) h e = absurd (let z : ◌≡◌ {A = ℕ} 0 1 = cc in omega arith)
    own n p (Err q) h e = let z : q ≡ r = cc in subst (Among 7 29) z (verdict_refused p q h)

-- 16 is no 5, and no bytes lack with it
not_there : (s : List ℕ) (r : Refusal) → refusal fault.NotThere 0 ≡ r → PassedOn s 0 r
not_there s r e = let k : Among 16 16 r = subst (Among 16 16) e (omega arith, omega arith, λ n. refl) in record { same = other r k (omega arith); none = k.2 }

-- ---- one map
module _ (s : List ℕ) (id : ℕ) (r : Refusal) where
  pub name_passes : header_at s 0 ≡ Err r → name_at s id ≡ Err r
  unfolding name_at
  name_passes e = rw (opened_passes s r e)

  pub name_passed : name_at s id ≡ Err r → PassedOn s 0 r
  unfolding name_at
  name_passed = go (opened_of s) refl
    where
      by_part : (p : Option Part) → or_not_there p ≡ Err r → PassedOn s 0 r
      by_part (Some q) e = absurd (let z : ◌≡◌ {A = ℕ} 0 1 = cc in omega arith)
      by_part None e = not_there s r cc

      go : (o : Result ℕ Refusal) → opened_of s ≡ o → in_opened s id o ≡ Err r → PassedOn s 0 r
      go (Err q) h e = opened_passed s r (h ∙ ap Err cc)
      go (Ok n) h e = by_part (name_in (take n s) id) e

-- ---- two maps
module _ (a b : List ℕ) (id : ℕ) (r : Refusal) where
  pub opening_passes : opened_of a ≡ Err r → name_of_two_at a b id ≡ Err r
  unfolding name_of_two_at
  opening_passes e = rw e

  -- the closing map's, where the opening one is accepted
  pub closing_passes : (n : ℕ) → opened_of a ≡ Ok n → opened_of b ≡ Err r → name_of_two_at a b id ≡ Err r
  unfolding name_of_two_at
  closing_passes n h e = rw (h, e)

  pub two_passed : name_of_two_at a b id ≡ Err r → PassedOn a 0 r ⊎ PassedOn b 0 r
  unfolding name_of_two_at
  two_passed = go (opened_of a) (opened_of b) refl refl
    where
      by_parts : (p q : Option Part) → or_else p q ≡ Err r → PassedOn a 0 r
      by_parts (Some x) q e = absurd (let z : ◌≡◌ {A = ℕ} 0 1 = cc in omega arith)
      by_parts None (Some x) e = absurd (let z : ◌≡◌ {A = ℕ} 0 1 = cc in omega arith)
      by_parts None None e = not_there a r cc

      go : (x y : Result ℕ Refusal) → opened_of a ≡ x → opened_of b ≡ y → in_two a b id x y ≡ Err r → PassedOn a 0 r ⊎ PassedOn b 0 r
      go (Err q) y h i e = inl (opened_passed a r (h ∙ ap Err cc))
      go (Ok k) (Err q) h i e = inr (opened_passed b r (i ∙ ap Err cc))
      go (Ok k) (Ok n) h i e = inl (by_parts (name_in (take n b) id) (name_in (take k a) id) e)
