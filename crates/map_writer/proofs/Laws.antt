-- The laws of sizes: of a slot, of some, and of the rest.
use Prim.Native.Nat.{ℕ, ◌+◌, ◌-◌, ◌<◌, ◌≤◌}
use mathlib.Core.Path.{◌≡◌, refl}
use mathlib.Core.Bool.{Bool, true, false}
use mathlib.Core.List.{List, ◌++◌}
use native.Mathlib.Omega.{arith}
use borrow.Author.Tests.{ltb-false}
use lib.ListN.{length}
use lib.Dec.{ltb, eqb}
use Rattle.plate.specs.Choice.{pick}
use Rattle.map_given.specs.declared.Slot.{Slot}
use Rattle.map_given.specs.Given.{slot_at, slots, track_at, tracks_given}
use Rattle.map_writer.specs.Inside.{slot_size, slots_size, tracks_size}
use Rattle.map_given.specs.Faults.{is_text, is_eight}
use Rattle.map_given.proofs.Laws.{slots_more, no_slots, tracks_more, no_tracks}

-- a text, a 4D, a number
pub slot_under : (s : Slot) → slot_size s ≤ pick (is_text s.tag) 257 (pick (is_eight s.tag) 10 6)
unfolding slot_size
slot_under s = go (eqb s.mark 1) (is_text s.tag) (ltb 254 s.second) refl (is_eight s.tag)
  where
    go : (a b x : Bool) → ltb 254 s.second ≡ x → (y : Bool) → pick a (pick b (pick x 0 (3 + s.second)) (pick y 10 6)) 0 ≤ pick b 257 (pick y 10 6)
    go true true true e y = omega arith
    go true true false e y = omega (arith, ltb-false)
    go true false x e true = omega arith
    go true false x e false = omega arith
    go false b x e y = omega arith

module _ (ws : List ℕ) where
  pub slots_size_turn : (n at tag : ℕ) → 0 < n → slots_size (slots n ws at tag) ≡ slot_size (slot_at ws at tag) + slots_size (slots (n - 1) ws (at + 3) (tag + 1))
  unfolding slots_size
  slots_size_turn n at tag h = rw (slots_more n ws at tag h)

  pub slots_size_out : (n at tag : ℕ) → n ≤ 0 → slots_size (slots n ws at tag) ≡ 0
  unfolding slots_size
  slots_size_out n at tag h = rw (no_slots n ws at tag h)

pub tracks_size_turn : (x r : List ℕ) → length x ≡ 23 → tracks_size (tracks_given (x ++ r)) ≡ 4 + slots_size (track_at x 0).slots + tracks_size (tracks_given r)
unfolding tracks_size
tracks_size_turn x r h = rw (tracks_more x r h)

pub tracks_size_out : (r : List ℕ) → length r < 23 → tracks_size (tracks_given r) ≡ 0
unfolding tracks_size
tracks_size_out r h = rw (no_tracks r h)
