-- Demand 2, reading: what the readers say means the numbers of the paper. Proved in proofs/WhatIsRead.antt.
-- That reading follows RDD 14 is what the definitions of specs/ say, in the order of docs/READING.md; this page has what is said of them in the paper's own numbers, and the readings that it marks.
use Rattle.std.specs.Prelude.{ℕ, ◌≤◌, ◌<◌, ◌^◌, ◌≡◌, List, ◌⊎◌, length, get_or, Ok}
use Rattle.map_answer.specs.Answer.{CodeSays}
use Rattle.map.specs.Map.{map_verdict, listed_in}
use Rattle.mpeg_parameter.specs.declared.Parameters as parameters
use Rattle.mpeg.specs.Meaning.{Means}
use Rattle.paper_readings.specs.Calls.{Parameters}
use Rattle.paper_readings.specs.Table.{Agree, readings}
use Rattle.paper_readings.specs.Cases.{cases}
use Rattle.paper_readings.specs.Streams.{Computed}

pub record WhatIsRead : Type 0 where
  -- a rate, line or field code is the signed number that its four bytes are, where 01 lists it, and absent just where it does not
  pub codes : (tag n : ℕ) → (tag ≡ 0x50) ⊎ ((tag ≡ 0x51) ⊎ (tag ≡ 0x52)) → n < 2 ^ 32 → CodeSays tag n
  -- the parameters of an accepted auxiliary text are the numbers that its lines give; Br is the float with the bits of N divided by 1,000,000
  pub parameters : (v : List ℕ) (p : parameters.Parameters) → Parameters v (Ok p) → Means v p
  -- an accepted map, of bytes, lists 64 tracks at most
  pub tracks : (p : List ℕ) → ((i : ℕ) → get_or p i 0 < 256) → map_verdict p ≡ (Ok tt) → length (listed_in p) ≤ 64
  -- the readings that the paper marks, the order of faults in maps and texts, and a whole stream with its seeks and its book
  pub marked : Agree readings
  pub order : Agree cases
  pub stream : Computed
