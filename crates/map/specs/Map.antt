-- The map packet (RDD 14, 7.1.2; 01, "Map"): its two sections, the verdict and the answer.
-- p is the bytes of one packet, from its header's first byte to its length; the header itself is judged by `packet_at`, in `map_at` and `track_at`.
use Rattle.std.specs.Prelude.{ℕ, ◌+◌, ◌-◌, List, [], length, get_or, replicate, ltb, eqb, Option, Result, Ok, Err, ⊤, ok_or}
use Rattle.plate.specs.Choice.{pick}
use Rattle.plate.specs.Part.{part}
use Rattle.plate.specs.Plate.{refusal}
use Rattle.number.specs.Number.{be}
use Rattle.packet.specs.Packet.{packet_at, type_map}
use Rattle.map_items.specs.Items.{section_of}
use Rattle.map_items.specs.Judge.{bad, and_then, verdict_of}
use Rattle.map_items.specs.declared.Section.TheVariants as section
use Rattle.map_answer.specs.Answer.{material_of}
use Rattle.map_answer.specs.declared.Material.{Material}
use Rattle.map_tracks.specs.Tracks.{Placed, tracks_of, tracks_verdict, listed, kth_of, types_of}
use Rattle.map.specs.declared.Layout.{Layout}
use Rattle.map.specs.declared.Layout.TheVariants.{Both, One, Neither}
use Rattle.map.specs.declared.MapSays.{MapSays}
use Rattle.map_answer.specs.declared.Track.{Track}
use Rattle.packet.specs.declared.Packet.{Packet}
use Rattle.plate.specs.declared.Refusal.{Refusal}
use Rattle.plate.specs.declared.Fault.TheVariants as fault

-- the track section's length word, 16 bits, stands where the material section ends, at a
unfoldable pub after_material : List ℕ → ℕ → Layout
after_material p a =
    pick (ltb (length p - a) 2) (One a)
    (pick (ltb (length p - a - 2) (be p a 2)) (One a) (Both a (a + 2 + be p a 2)))

-- the material section's length word, 16 bits, stands at 18
unfoldable pub layout_of : List ℕ → Layout
layout_of p = pick (ltb (length p) 20) Neither (pick (ltb (length p - 20) (be p 18 2)) Neither (after_material p (20 + be p 18 2)))

-- the bytes of the material section, and of the track section; none where one is missing or passes the packet
abbrev pub material_in : List ℕ → Layout → List ℕ
material_in p (Both a e) = part 20 a p
material_in p (One a) = part 20 a p
material_in p Neither = []

abbrev pub tracks_in : List ℕ → Layout → List ℕ
tracks_in p (Both a e) = part (a + 2) e p
tracks_in p (One a) = []
tracks_in p Neither = []

-- the place where the track section begins
abbrev pub tracks_at : Layout → ℕ
tracks_at (Both a e) = a + 2
tracks_at (One a) = 0
tracks_at Neither = 0

unfoldable pub both_verdict : List ℕ → ℕ → ℕ → Result ⊤ Refusal
both_verdict p a e = and_then (verdict_of section.Material (part 20 a p) 20) (tracks_verdict (part (a + 2) e p) (a + 2))

-- one walk: the material length word, its items, the track length word, the tracks
unfoldable pub sections_verdict : List ℕ → Layout → Result ⊤ Refusal
sections_verdict p Neither = bad fault.Overhang 18
sections_verdict p (One a) = and_then (verdict_of section.Material (part 20 a p) 20) (bad fault.Overhang a)
sections_verdict p (Both a e) = both_verdict p a e

-- a payload under two bytes, 8; a version byte other than E0, 7; the reserved byte after it is ignored; then the sections
unfoldable pub map_verdict : List ℕ → Result ⊤ Refusal
map_verdict p = pick (ltb (length p) 18) (bad fault.Overhang 16) (pick (eqb (get_or p 16 0) 0xE0) (sections_verdict p (layout_of p)) (bad fault.MapVersion 16))

unfoldable pub material_says : List ℕ → Material
material_says p = material_of 20 (section_of (material_in p (layout_of p))).list

-- the listed tracks, with their places
unfoldable pub listed_in : List ℕ → List Placed
listed_in p = listed (tracks_at (layout_of p)) (tracks_of (tracks_in p (layout_of p))).list

-- by ID, the marked type of the track that is listed under it: its type, with the mark where its fields per frame are 1
unfoldable pub types_in : List ℕ → List ℕ
types_in p = types_of (replicate 64 0) (tracks_of (tracks_in p (layout_of p))).list

-- the answer, where the map is accepted
abbrev pub on_verdict : Result ⊤ Refusal → Result MapSays Refusal → Result MapSays Refusal
on_verdict (Ok _) a = a
on_verdict (Err r) a = Err r

unfoldable pub answer_of : List ℕ → Result MapSays Refusal
answer_of p = on_verdict (map_verdict p) (Ok (record { count = length (listed_in p); material = material_says p }))

-- the k-th listed track; 16 where there is none
abbrev pub on_kth : Option Track → Result Track Refusal
on_kth t = ok_or t (refusal fault.NotThere 0)

abbrev pub on_track : Result ⊤ Refusal → Result Track Refusal → Result Track Refusal
on_track (Ok _) a = a
on_track (Err r) a = Err r

unfoldable pub track_in : List ℕ → ℕ → Result Track Refusal
track_in p k = on_track (map_verdict p) (on_kth (kth_of k (listed_in p)))

-- at a position of lent bytes: the header's refusals first; the packet's bytes are no more than its length
abbrev pub map_from : List ℕ → ℕ → Result Packet Refusal → Result MapSays Refusal
map_from s at (Err r) = Err r
map_from s at (Ok w) = answer_of (part at (at + w.len) s)

unfoldable pub map_at : List ℕ → ℕ → Result MapSays Refusal
map_at s at = map_from s at (packet_at s at type_map)

abbrev pub track_from : List ℕ → ℕ → ℕ → Result Packet Refusal → Result Track Refusal
track_from s at k (Err r) = Err r
track_from s at k (Ok w) = track_in (part at (at + w.len) s) k

unfoldable pub track_at : List ℕ → ℕ → ℕ → Result Track Refusal
track_at s at k = track_from s at k (packet_at s at type_map)
