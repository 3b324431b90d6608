-- Reading what was written, through the readers' contracts as the checker reads them (`Reads.Post`): whatever `locator::read` and `locator::position` give. Proved in proofs/Readers.antt.
use Rattle.std.specs.Prelude.{ℕ, ◌*◌, ◌/◌, ◌≤◌, ◌<◌, ◌≡◌, List, length, get_or, Result, Ok, Err}
use contract.Lifetimes.{Lfts}
use borrow.Fn.Kinds.{ended_of, Dens}
use denote.Triple.Clauses.{AtExit}
use Rattle.plate.specs.Plate.{refusal}
use Rattle.locator.proofs.read.Kinds as read-kinds
use Rattle.locator.proofs.read.Reads as read-reads
use Rattle.locator.proofs.position.Kinds as position-kinds
use Rattle.locator.proofs.position.Reads as position-reads
use Rattle.locator.specs.declared.Locator.{Locator}
use Rattle.plate.specs.declared.Refusal.{Refusal}
use Rattle.plate.specs.declared.Fault.TheVariants as fault

-- x is an outcome that the contract of `read` allows on these bytes, at this place
pub record ReadGives (now : List ℕ) (at : ℕ) (x : Result Locator Refusal) : Type 0 where
  pub lifetimes : Lfts 1
  pub arguments : Dens lifetimes read-kinds.ps
  pub exit : AtExit (ended_of 1 read-kinds.ps read-kinds.r) lifetimes
  pub bytes : arguments.0.now ≡ now
  pub place : arguments.1.0 ≡ at
  pub post : read-reads.Post lifetimes arguments x exit

-- y is an outcome that the contract of `position` allows there, for a distance
pub record PositionGives (now : List ℕ) (at d : ℕ) (y : Result ℕ Refusal) : Type 0 where
  pub lifetimes : Lfts 1
  pub arguments : Dens lifetimes position-kinds.ps
  pub exit : AtExit (ended_of 1 position-kinds.ps position-kinds.r) lifetimes
  pub bytes : arguments.0.now ≡ now
  pub place : arguments.1.0 ≡ at
  pub distance : arguments.1.1.0 ≡ d
  pub post : position-reads.Post lifetimes arguments y exit

-- the readers at a place show a table of this step and these offsets: its step and count, for every distance within it the position of its entry, and 16 past it
pub record Readers (now : List ℕ) (at step : ℕ) (ns : List ℕ) : Type 0 where
  pub read : (x : Result Locator Refusal) → ReadGives now at x → x ≡ Ok (record { step = step; count = length ns })
  pub position : (d : ℕ) (y : Result ℕ Refusal) → PositionGives now at d y → d / step < length ns → y ≡ Ok (1024 * get_or ns (d / step) 0)
  pub past : (d : ℕ) (y : Result ℕ Refusal) → PositionGives now at d y → length ns ≤ d / step → y ≡ Err (refusal fault.NotThere 0)
