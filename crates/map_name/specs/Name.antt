-- Names (01, "Map"): the part of a lent map packet that holds a listed track's name, without the 00; of one map, and of two.
use Rattle.std.specs.Prelude.{ℕ, ◌+◌, ◌-◌, List, [], take, drop, Option, Some, None, Result, Ok, Err, ⊤, ok_or}
use Rattle.plate.specs.Plate.{refusal}
use Rattle.packet.specs.Packet.{packet_at, type_map}
use Rattle.map_tracks.specs.Tracks.{id_of}
use Rattle.map.specs.Map.{map_verdict, listed_in}
use Rattle.map_name.specs.declared.OfTwo.{OfTwo}
use Rattle.map_name.specs.declared.OfTwo.TheVariants as two
use Rattle.map_answer.specs.declared.Track.{Track}
use Rattle.map_items.specs.declared.Part.{Part}
use Rattle.packet.specs.declared.Packet.{Packet}
use Rattle.plate.specs.declared.Refusal.{Refusal}
use Rattle.plate.specs.declared.Fault.TheVariants as fault

-- the map packet at the start of lent bytes: its length where it is accepted, else its refusal
abbrev pub if_accepted : ℕ → Result ⊤ Refusal → Result ℕ Refusal
if_accepted n (Ok _) = Ok n
if_accepted n (Err r) = Err r

abbrev pub if_whole : List ℕ → Result Packet Refusal → Result ℕ Refusal
if_whole s (Err r) = Err r
if_whole s (Ok w) = if_accepted w.len (map_verdict (take w.len s))

unfoldable pub opened_of : List ℕ → Result ℕ Refusal
opened_of s = if_whole s (packet_at s 0 type_map)

-- a text without its closing 00
unfoldable pub unended : Option Part → Option Part
unended None = None
unended (Some q) = Some (record { at = q.at; len = q.len - 1 })

-- the name of the listed track of an ID
abbrev pub name_from : Option Track → Option Part
name_from None = None
name_from (Some t) = unended t.name

unfoldable pub name_in : List ℕ → ℕ → Option Part
name_in p id = name_from (id_of id (listed_in p))

-- 16 where the track is not listed or has no name
abbrev pub or_not_there : Option Part → Result Part Refusal
or_not_there name = ok_or name (refusal fault.NotThere 0)

abbrev pub in_opened : List ℕ → ℕ → Result ℕ Refusal → Result Part Refusal
in_opened s id (Err r) = Err r
in_opened s id (Ok n) = or_not_there (name_in (take n s) id)

unfoldable pub name_at : List ℕ → ℕ → Result Part Refusal
name_at s id = in_opened s id (opened_of s)

-- the part's bytes, and where it begins in the memory that the lent slice is, a block and an offset; where refused, at the slice's start
abbrev pub name_bytes : List ℕ → Result Part Refusal → List ℕ
name_bytes s (Ok q) = take q.len (drop q.at s)
name_bytes s (Err r) = []

abbrev pub place_in : ℕ × ℕ → Result Part Refusal → ℕ × ℕ
place_in at (Ok q) = (at.0, q.at + at.1)
place_in at (Err r) = at

-- the closing map's name, null included, before the opening map's; then 16
abbrev pub or_else : Option Part → Option Part → Result OfTwo Refusal
or_else (Some q) o = Ok (two.Closing q)
or_else None (Some q) = Ok (two.Opening q)
or_else None None = Err (refusal fault.NotThere 0)

-- the opening map's refusal first, then the closing map's
abbrev pub in_two : List ℕ → List ℕ → ℕ → Result ℕ Refusal → Result ℕ Refusal → Result OfTwo Refusal
in_two a b id (Err r) o = Err r
in_two a b id (Ok k) (Err r) = Err r
in_two a b id (Ok k) (Ok n) = or_else (name_in (take n b) id) (name_in (take k a) id)

unfoldable pub name_of_two_at : List ℕ → List ℕ → ℕ → Result OfTwo Refusal
name_of_two_at a b id = in_two a b id (opened_of a) (opened_of b)

abbrev pub two_bytes : List ℕ → List ℕ → Result OfTwo Refusal → List ℕ
two_bytes a b (Ok (two.Opening q)) = take q.len (drop q.at a)
two_bytes a b (Ok (two.Closing q)) = take q.len (drop q.at b)
two_bytes a b (Err r) = []

abbrev pub place_of_two : ℕ × ℕ → ℕ × ℕ → Result OfTwo Refusal → ℕ × ℕ
place_of_two a b (Ok (two.Opening q)) = (a.0, q.at + a.1)
place_of_two a b (Ok (two.Closing q)) = (b.0, q.at + b.1)
place_of_two a b (Err r) = a
