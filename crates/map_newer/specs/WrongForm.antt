-- A map that is refused with 29 is refused with 29 when it is struck, and when an unknown item is set in (02, §12: striking keeps its meaning). Proved in proofs/WrongForm.antt; that an accepted map stays accepted is `accepted` and `set_in_lem` of `Demand`.
use Rattle.std.specs.Prelude.{ℕ, ◌≡◌, List, length, Err}
use Rattle.plate.specs.Plate.{refusal}
use Rattle.number.specs.Number.{be}
use Rattle.map_items.specs.Items.{Item}
use Rattle.map_items.specs.Judge.{bad}
use Rattle.map.specs.Map.{map_verdict, map_at}
use Rattle.map_newer.specs.Demand.{Bytes, There, Unknown, Room}
use Rattle.map_newer.specs.Strike.{strike, Boundary, set_in}
use Rattle.plate.specs.declared.Fault.TheVariants as fault

-- the bytes of a map packet are refused with 29, at some place
abbrev pub Refused29 : List ℕ → Type 0
Refused29 m = (q : ℕ) × (map_verdict m ≡ bad fault.WrongForm q)

-- a map packet that the reader refuses with 29: the bytes of one packet, as many as its header states
pub record Wrong (m : List ℕ) : Type 0 where
  pub alone : be m 6 4 ≡ length m
  pub place : ℕ
  pub read : map_at m 0 ≡ Err (refusal fault.WrongForm place)

pub record StaysWrong : Type 0 where
  pub struck : (m : List ℕ) → Bytes m → Refused29 m → Wrong (strike m)
  pub set_in_lem : (m : List ℕ) → Bytes m → Refused29 m → (b : Boundary) (i : Item) → There b m → Unknown b i → Room b i m → Wrong (set_in b i m)
