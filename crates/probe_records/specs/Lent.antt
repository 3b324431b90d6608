-- A call of `map_records::fill` on the first n of some records (01, Map, "Reading fills lent track records").
use Rattle.std.specs.Prelude.{ℕ, List, ◌++◌, take, drop, ltb, Result}
use Rattle.plate.specs.Choice.{pick}
use Rattle.map_answer.specs.declared.Track.{Track}
use Rattle.map_records.specs.Fill.{records_at, answer_for, lent_after}
use Rattle.probe_records.specs.declared.After.{After}
use Rattle.map.specs.declared.MapSays.{MapSays}
use Rattle.plate.specs.declared.Refusal.{Refusal}

abbrev pub afterwards : Result MapSays Refusal → List Track → After
afterwards a zs = record { answer = a; records = zs }

-- n is at most the number of records: the answer for n, and all records: those that were lent as the call leaves them, then the others as they were
unfoldable pub after_fill : List Track → ℕ → List ℕ → ℕ → After
after_fill xs n s at = afterwards (answer_for s at n) (lent_after (records_at s at) (take n xs) (answer_for s at n) ++ drop n xs)

-- of 80 records, how many are lent where n are asked for; more never shows in an answer, as an accepted map lists 64 tracks at most (`map_64` in map/proofs/Most.antt)
unfoldable pub lent_of : ℕ → ℕ
lent_of n = pick (ltb n 80) n 80
