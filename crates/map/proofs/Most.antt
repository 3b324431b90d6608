-- An accepted map lists at most 64 tracks.
use Prim.Native.Nat.{ℕ, ◌+◌, ◌-◌, ◌≤◌}
use mathlib.Core.Path.{◌≡◌}
use mathlib.Core.List.{List}
use lib.ListN.{length, drop}
use Rattle.std.specs.Prelude.{Ok}
use Rattle.number.proofs.Laws.{Bytes}
use Rattle.number.proofs.Bytes.{one_by_one, bytes_take, bytes_drop}
use Rattle.map_tracks.proofs.Most.{section_64}
use Rattle.map.specs.Map.{map_verdict, listed_in}
use Rattle.plate.specs.Part.{part}
use Rattle.map.proofs.Parts.{accepted_sections}

pub map_64 : (p : List ℕ) → Bytes p → map_verdict p ≡ (Ok tt) → length (listed_in p) ≤ 64
unfolding listed_in
map_64 p b h =
    let s = accepted_sections p h in
    let a = s.a + 2 in
    rw s.layout (section_64 (part a s.e p) a a (bytes_take (s.e - a) (drop a p) (bytes_drop a p (one_by_one p b))) s.tracks)
