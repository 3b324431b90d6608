-- Cases of order in a map and in auxiliary text, each with the refusal that 01's walk gives, and all 64 IDs, once and with one of them again. Proved in proofs/Cases.antt.
use Rattle.std.specs.Prelude.{ℕ, zero, suc, ◌+◌, ◌-◌, List, [], ◌∷◌, ◌++◌, length, replicate, None, Result, Ok, Err}
use Rattle.plate.specs.Plate.{refusal}
use Rattle.map.specs.Map as map
use Rattle.mpeg.specs.Read as mpeg
use Rattle.map.proofs.Samples.{saying}
use Rattle.paper_readings.specs.Table.{Reading}
use Rattle.map.specs.declared.MapSays.{MapSays}
use Rattle.mpeg_parameter.specs.declared.Parameters.{Parameters}
use Rattle.plate.specs.declared.Refusal.{Refusal}
use Rattle.plate.specs.declared.Fault.{Fault}
use Rattle.plate.specs.declared.Fault.TheVariants as fault

-- a map packet of a length and a payload
abbrev framed : ℕ → ℕ → List ℕ → List ℕ
framed high low payload = 0 ∷ 0 ∷ 0 ∷ 0 ∷ 1 ∷ 0xBC ∷ 0 ∷ 0 ∷ high ∷ low ∷ 0 ∷ 0 ∷ 0 ∷ 0 ∷ 0xE1 ∷ 0xE2 ∷ payload

-- an empty material section, and the track section's length
abbrev bare : ℕ → ℕ → List ℕ
bare high low = 0xE0 ∷ 0xFF ∷ 0 ∷ 0 ∷ high ∷ low ∷ []

-- a map of 40 bytes with one track, of up to 14 bytes of items, which begin at 26
abbrev itemed : List ℕ → List ℕ
itemed is = framed 0 40 (bare 0 (4 + length is) ++ (0x8A ∷ 0xC1 ∷ 0 ∷ length is ∷ is) ++ replicate (14 - length is) 0)

abbrev refused_as : List ℕ → Fault → ℕ → Reading
refused_as s f p = record { Answer = (Result MapSays Refusal); gives = map.map_at s 0; says = Err (refusal f p) }

-- tracks of type 10 with no items, of n IDs from one on
abbrev id_tracks : ℕ → ℕ → List ℕ
id_tracks zero id = []
id_tracks (suc n) id = 0x8A ∷ id ∷ 0 ∷ 0 ∷ id_tracks n (suc id)

-- the line `Ver` with a value of one byte
abbrev ver : ℕ → List ℕ
ver b = 0x56 ∷ 0x65 ∷ 0x72 ∷ 0x20 ∷ b ∷ 0x0A ∷ []

abbrev text_as : List ℕ → Fault → ℕ → Reading
text_as v f p = record { Answer = (Result Parameters Refusal); gives = mpeg.read_of v; says = Err (refusal f p) }

abbrev empty : ℕ → Result MapSays Refusal
empty n = Ok (saying n None)

unfoldable pub cases : List Reading
cases =
    -- a type byte under 80 and items that pass the section: 12 before 8 for overhang
    refused_as (framed 0 28 (bare 0 4 ++ (0x05 ∷ 0xC1 ∷ 0xFF ∷ 0xFF ∷ 0 ∷ 0 ∷ []))) fault.TypeOrId 22
    -- items that pass the section, and a repeated ID: 8 before 10
    ∷ refused_as (framed 0 32 (bare 0 8 ++ (0x8A ∷ 0xC1 ∷ 0 ∷ 0 ∷ 0x8A ∷ 0xC1 ∷ 0xFF ∷ 0xFF ∷ 0 ∷ 0 ∷ []))) fault.Overhang 26
    -- an ID that an unlisted track has already
    ∷ refused_as (framed 0 32 (bare 0 8 ++ (0xFF ∷ 0xC1 ∷ 0 ∷ 0 ∷ 0x8A ∷ 0xC1 ∷ 0 ∷ 0 ∷ 0 ∷ 0 ∷ []))) fault.Twice 26
    -- no room for the track length word: at its own place, the packet's length
    ∷ refused_as (framed 0 20 (0xE0 ∷ 0xFF ∷ 0 ∷ 0 ∷ [])) fault.Overhang 20
    -- 4D after 4F: 10 at the later
    ∷ refused_as (framed 0 40 (bare 0 17 ++ (0x8A ∷ 0xC1 ∷ 0 ∷ 13 ∷ 0x4F ∷ 1 ∷ 0 ∷ 0x4D ∷ 8 ∷ 0 ∷ 0 ∷ 0 ∷ 0 ∷ 0 ∷ 0 ∷ 0 ∷ 0 ∷ 0 ∷ []))) fault.Twice 29
    -- a fault in a track of unknown type
    ∷ refused_as (framed 0 32 (bare 0 9 ++ (0xFF ∷ 0xC1 ∷ 0 ∷ 5 ∷ 0x50 ∷ 3 ∷ 0 ∷ 0 ∷ 0 ∷ 0 ∷ []))) fault.ItemSize 26
    -- an item of another size before bad text: 9; bad text before it: 11
    ∷ refused_as (framed 0 36 (bare 0 12 ++ (0x8A ∷ 0xC1 ∷ 0 ∷ 8 ∷ 0x50 ∷ 3 ∷ 0 ∷ 0 ∷ 0 ∷ 0x4C ∷ 1 ∷ 0x41 ∷ 0 ∷ 0 ∷ []))) fault.ItemSize 26
    ∷ refused_as (framed 0 36 (bare 0 12 ++ (0x8A ∷ 0xC1 ∷ 0 ∷ 8 ∷ 0x4C ∷ 1 ∷ 0x41 ∷ 0x50 ∷ 3 ∷ 0 ∷ 0 ∷ 0 ∷ 0 ∷ 0 ∷ []))) fault.Text 26
    -- at one item 8, 9, 11, 10: 50 again, of another size, and it passes the track; 4C again, bad text, and it passes
    ∷ refused_as (itemed (0x50 ∷ 4 ∷ 0 ∷ 0 ∷ 0 ∷ 1 ∷ 0x50 ∷ 3 ∷ 0 ∷ [])) fault.Overhang 32
    ∷ refused_as (itemed (0x4C ∷ 1 ∷ 0 ∷ 0x4C ∷ 3 ∷ 0x41 ∷ [])) fault.Overhang 29
    -- 50 again, and of another size; 4D beside 4F, and of another size: 9 before 10
    ∷ refused_as (itemed (0x50 ∷ 4 ∷ 0 ∷ 0 ∷ 0 ∷ 1 ∷ 0x50 ∷ 3 ∷ 0 ∷ 0 ∷ 0 ∷ [])) fault.ItemSize 32
    ∷ refused_as (itemed (0x4F ∷ 1 ∷ 0 ∷ 0x4D ∷ 3 ∷ 0 ∷ 0 ∷ 0 ∷ [])) fault.ItemSize 29
    -- 4C again, and bad text: 11 before 10; a good one: 10
    ∷ refused_as (itemed (0x4C ∷ 1 ∷ 0 ∷ 0x4C ∷ 1 ∷ 0x41 ∷ [])) fault.Text 29
    ∷ refused_as (itemed (0x4C ∷ 1 ∷ 0 ∷ 0x4C ∷ 1 ∷ 0 ∷ [])) fault.Twice 29
    -- the same in the material section: 41 again, and it passes; of another size; as it should be
    ∷ refused_as (framed 0 36 (0xE0 ∷ 0xFF ∷ 0 ∷ 10 ∷ 0x41 ∷ 4 ∷ 0 ∷ 0 ∷ 0 ∷ 0 ∷ 0x41 ∷ 3 ∷ replicate 8 0)) fault.Overhang 26
    ∷ refused_as (framed 0 36 (0xE0 ∷ 0xFF ∷ 0 ∷ 11 ∷ 0x41 ∷ 4 ∷ 0 ∷ 0 ∷ 0 ∷ 0 ∷ 0x41 ∷ 3 ∷ replicate 8 0)) fault.ItemSize 26
    ∷ refused_as (framed 0 36 (0xE0 ∷ 0xFF ∷ 0 ∷ 12 ∷ 0x41 ∷ 4 ∷ 0 ∷ 0 ∷ 0 ∷ 0 ∷ 0x41 ∷ 4 ∷ replicate 8 0)) fault.Twice 26
    -- auxiliary text: no 00 at the end, and a malformed value: 11
    ∷ text_as (ver 0x78) fault.Text 0
    -- Ver again, and malformed: 26; again, the first outside its list: 10; neither, and nothing else given: 27
    ∷ text_as (ver 0x31 ++ ver 0x78 ++ (0 ∷ [])) fault.AuxiliaryLine 6
    ∷ text_as (ver 0x32 ++ ver 0x31 ++ (0 ∷ [])) fault.Twice 6
    ∷ text_as (ver 0x31 ++ (0 ∷ [])) fault.NotGiven 0
    -- 64 tracks with all IDs
    ∷ record { Answer = (Result MapSays Refusal); gives = map.map_at (framed 1 0x18 (bare 1 0 ++ id_tracks 64 0xC0 ++ (0 ∷ 0 ∷ []))) 0; says = empty 64 }
    -- the first and the last ID again after these, 0 and 63: 10 at the 65th track
    ∷ refused_as (framed 1 0x1C (bare 1 4 ++ id_tracks 64 0xC0 ++ (0x8A ∷ 0xC0 ∷ 0 ∷ 0 ∷ 0 ∷ 0 ∷ []))) fault.Twice 278
    ∷ refused_as (framed 1 0x1C (bare 1 4 ++ id_tracks 64 0xC0 ++ (0x8A ∷ 0xFF ∷ 0 ∷ 0 ∷ 0 ∷ 0 ∷ []))) fault.Twice 278
    -- each of them twice and no other: 10 at the later header
    ∷ refused_as (framed 0 32 (bare 0 8 ++ (0x8A ∷ 0xC0 ∷ 0 ∷ 0 ∷ 0x8A ∷ 0xC0 ∷ 0 ∷ 0 ∷ 0 ∷ 0 ∷ []))) fault.Twice 26
    ∷ refused_as (framed 0 32 (bare 0 8 ++ (0x8A ∷ 0xFF ∷ 0 ∷ 0 ∷ 0x8A ∷ 0xFF ∷ 0 ∷ 0 ∷ 0 ∷ 0 ∷ []))) fault.Twice 26
    -- an ID of two unlisted tracks, and of a listed one and then an unlisted one
    ∷ refused_as (framed 0 32 (bare 0 8 ++ (0xFF ∷ 0xC1 ∷ 0 ∷ 0 ∷ 0xFE ∷ 0xC1 ∷ 0 ∷ 0 ∷ 0 ∷ 0 ∷ []))) fault.Twice 26
    ∷ refused_as (framed 0 32 (bare 0 8 ++ (0x8A ∷ 0xC1 ∷ 0 ∷ 0 ∷ 0xFF ∷ 0xC1 ∷ 0 ∷ 0 ∷ 0 ∷ 0 ∷ []))) fault.Twice 26
    ∷ []
