-- What was written is what the readers give: specs/Readers.antt has the statement.
use Prim.Native.Nat.{ℕ}
use mathlib.Core.Path.{◌≡◌, ◌∙◌}
use mathlib.Core.List.{List}
use contract.Lifetimes.{Lfts}
use borrow.Fn.Kinds.{ended_of, Dens}
use denote.Triple.Clauses.{AtExit}
use Rattle.std.specs.Prelude.{Result, Ok}
use Rattle.locator.specs.Locator.{table_at, position_at}
use Rattle.locator_writer.specs.Readers.{ReadGives, PositionGives, Readers}
use Rattle.locator_writer.proofs.RoundTrip.{write_reads_back}
use Rattle.locator_writer.specs.ReadBack.{ReadBack}
use Rattle.locator_writer.proofs.write.Kinds as kinds
use Rattle.locator_writer.proofs.write.Reads as reads
use Rattle.locator.specs.declared.Locator.{Locator}
use Rattle.plate.specs.declared.Refusal.{Refusal}

-- what the contracts allow is what the definitions give
read_gives : (now : List ℕ) (at : ℕ) (x : Result Locator Refusal) → ReadGives now at x → x ≡ table_at now at
read_gives now at x g = rw (← g.bytes, ← g.place) g.post

position_gives : (now : List ℕ) (at d : ℕ) (y : Result ℕ Refusal) → PositionGives now at d y → y ≡ position_at now at d
position_gives now at d y g = rw (← g.bytes, ← g.place, ← g.distance) g.post

pub readers : (out : List ℕ) (at step : ℕ) (ns : List ℕ) (n : ℕ) (now : List ℕ) → ReadBack out at step ns n now → Readers now at step ns
readers out at step ns n now b =
    record {
      read = λ x g. read_gives now at x g ∙ b.table;
      position = λ d y g h. position_gives now at d y g ∙ b.position d h;
      past = λ d y g h. position_gives now at d y g ∙ b.past d h;
    }

-- after a call of `write` that answered with a length
pub write_then_read : (κs : Lfts 2) (a : Dens κs kinds.ps) (n : ℕ) (s : AtExit (ended_of 2 kinds.ps kinds.r) κs)
    → reads.Post κs a (Ok n) s → Readers s.0.now a.1.0 a.1.1.0 a.1.1.1.0.now
write_then_read κs a n s p = readers a.0.now a.1.0 a.1.1.0 a.1.1.1.0.now n s.0.now (write_reads_back κs a n s p)
