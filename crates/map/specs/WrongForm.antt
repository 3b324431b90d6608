-- Refusal 29 in the request's words (02, §12): a map is refused with 29 at an item exactly when that item is the wrong form on a listed track without a null name, in the first such track, and all that comes before that track's end passes. Proved in proofs/WrongForm.antt.
use Rattle.std.specs.Prelude.{ℕ, ◌+◌, ◌≤◌, ◌≡◌, List, [], ◌⊎◌, get_or, Ok, Err}
use Rattle.plate.specs.Plate.{number}
use Rattle.plate.specs.Part.{part}
use Rattle.plate.specs.declared.Refusal.{Refusal}
use Rattle.map_items.specs.Judge.{bad, verdict_of}
use Rattle.map_items.specs.declared.Section.TheVariants as section
use Rattle.map_tracks.specs.Tracks.{Descriptions, tracks_of}
use Rattle.map_tracks.specs.WrongForm.{FirstWrong, judge_otherwise}
use Rattle.map.specs.Map.{layout_of, map_verdict}
use Rattle.map.specs.declared.Layout.TheVariants.{Both}
use Rattle.plate.specs.declared.Fault.TheVariants as fault

-- a map packet that passes up to its tracks: the version, both length words and the material's items; its tracks stand from a + 2 up to e
pub record UpToTracks (p : List ℕ) : Type 0 where
  pub a : ℕ
  pub e : ℕ
  pub version : get_or p 16 0 ≡ 0xE0
  pub layout : layout_of p ≡ Both a e
  pub material : verdict_of section.Material (part 20 a p) 20 ≡ (Ok tt)

-- its tracks, and how they end
abbrev pub tracks_there : (p : List ℕ) → UpToTracks p → Descriptions
tracks_there p u = tracks_of (part (u.a + 2) u.e p)

-- it has its first wrong form at q
abbrev pub WrongIn : (p : List ℕ) → UpToTracks p → ℕ → Type 0
WrongIn p u q = FirstWrong [] (u.a + 2) (tracks_there p u).list q

pub record WrongForm (p : List ℕ) : Type 0 where
  -- 29 is given at the first wrong form, whatever comes behind that track, and only there
  pub given : (u : UpToTracks p) (q : ℕ) → WrongIn p u q → map_verdict p ≡ bad fault.WrongForm q
  pub only : (r : Refusal) → map_verdict p ≡ Err r → number r ≡ 29 → (u : UpToTracks p) × WrongIn p u r.place
  -- a map that reaches its tracks and has none has their verdict as it was before, whatever it is; it has one or has none
  pub otherwise : (u : UpToTracks p) → ((q : ℕ) → WrongIn p u q → ⊥) → map_verdict p ≡ judge_otherwise [] (u.a + 2) (tracks_there p u).list (tracks_there p u).end
  pub either : (u : UpToTracks p) → ((q : ℕ) × WrongIn p u q) ⊎ ((q : ℕ) → WrongIn p u q → ⊥)
  -- so a map that passes otherwise is accepted, or refused with 29
  pub passes : (u : UpToTracks p) → judge_otherwise [] (u.a + 2) (tracks_there p u).list (tracks_there p u).end ≡ (Ok tt) → (map_verdict p ≡ (Ok tt)) ⊎ ((q : ℕ) × WrongIn p u q)
  -- a map's own refusals are 7 to 12 and 29
  pub numbers : (r : Refusal) → map_verdict p ≡ Err r → ((7 ≤ number r) × (number r ≤ 12)) ⊎ (number r ≡ 29)
