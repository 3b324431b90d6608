use Prim.Native.Nat.{ℕ}
use mathlib.Core.Path.{◌≡◌, refl, ◌∙◌}
use mathlib.Core.Bool.{Bool, true, false}
use lib.Dec.{eqb}
use Rattle.plate.specs.Choice.{pick}
use Rattle.plate.proofs.Tests.{tests, no_choice}
use Rattle.map_items.specs.Judge.{has}
use Rattle.umf_answer.specs.Says.{letters, is_track}
use Rattle.umf_answer.proofs.is_track.Goals as goal

flat : (b : Bool) → pick b true false ≡ b
flat true = refl
flat false = refl

-- A is a letter too
audio : (l : ℕ) → pick (has l letters) (eqb l 0x41) false ≡ eqb l 0x41
unfolding has
audio l = go (eqb l 0x41) _
  where
    go : (a b : Bool) → pick (pick a true b) a false ≡ a
    go true b = refl
    go false b = no_choice b false

pub returns-in-48-to-57 : goal.returns-in-48-to-57
unfolding is_track
returns-in-48-to-57 c = c.is_letter.ensures ∙ search (tests, flat)

pub returns-in-65-to-86 : goal.returns-in-65-to-86
unfolding is_track
returns-in-65-to-86 c = search (tests, flat, audio)

pub returns-in_default : goal.returns-in_default
unfolding is_track
returns-in_default c = search (tests, no_choice)

pub returns-in_default-2 : goal.returns-in_default-2
unfolding is_track
returns-in_default-2 c = search (tests, no_choice)

pub returns-in_default-3 : goal.returns-in_default-3
unfolding is_track
returns-in_default-3 c = search (tests, no_choice)
