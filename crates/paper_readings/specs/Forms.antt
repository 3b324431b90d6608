-- Readings of the wrong auxiliary form (02, §12): maps with one, and what is given to the writer with one; where 29 is given and where not, and its place in the order. Proved in proofs/Forms.antt.
use Rattle.std.specs.Prelude.{ℕ, ◌+◌, ◌-◌, ◌%◌, List, [], ◌∷◌, ◌++◌, length, replicate, Some, None, Result, Ok, Err}
use Rattle.plate.specs.Plate.{refusal}
use Rattle.map_aspect.specs.declared.Aspect.TheVariants as aspect
use Rattle.map_answer.specs.declared.Code.TheVariants as code
use Rattle.map.specs.Map as map
use Rattle.map.proofs.Samples.{headed, M, saying, rate_item}
use Rattle.map_name.specs.Name as names
use Rattle.map_name.specs.declared.OfTwo.{OfTwo}
use Rattle.map.specs.declared.MapSays.{MapSays}
use Rattle.map_answer.specs.declared.Track.{Track}
use Rattle.map_items.specs.declared.Part.{Part}
use Rattle.plate.specs.declared.Refusal.{Refusal}
use Rattle.plate.specs.declared.Fault.{Fault}
use Rattle.plate.specs.declared.Fault.TheVariants as fault
use Rattle.packet_writer.specs.Write.{refused}
use Rattle.map_writer.specs.Write as writer
use Rattle.map_writer.proofs.Worked.{absent, at, material, track as track_given, text}
use Rattle.paper_readings.specs.Table.{Reading}

-- a map with the material of M and a track section, from 28 on, of up to 200 bytes
abbrev pub tracked : List ℕ → List ℕ
tracked ts =
    headed 0xBC (28 + length ts + (4 - length ts % 4) % 4)
    ++ (0xE0 ∷ 0xFF ∷ 0 ∷ 6 ∷ 0x41 ∷ 4 ∷ 0 ∷ 0 ∷ 0 ∷ 0 ∷ 0 ∷ length ts ∷ ts)
    ++ replicate ((4 - length ts % 4) % 4) 0

abbrev pub track : ℕ → ℕ → List ℕ → List ℕ
track type_byte id is = type_byte ∷ id ∷ 0 ∷ length is ∷ is

-- one track of ID 1, its items from 32 on; M is that with type byte 8A, the name A1 and a rate
abbrev pub with : ℕ → List ℕ → List ℕ
with type_byte is = tracked (track type_byte 0xC1 is)

-- items: the name A1, the null name, a rate, a 4F of two bytes, a 4D
abbrev pub name : List ℕ
name = 0x4C ∷ 3 ∷ 0x41 ∷ 0x31 ∷ 0 ∷ []

abbrev pub null : List ℕ
null = 0x4C ∷ 1 ∷ 0 ∷ []

abbrev pub rate : List ℕ
rate = rate_item 0xFF 0xFE

abbrev pub mpeg : List ℕ
mpeg = 0x4F ∷ 2 ∷ 0x41 ∷ 0 ∷ []

abbrev aux : List ℕ
aux = 0x4D ∷ 8 ∷ replicate 8 7

abbrev gives : List ℕ → Result MapSays Refusal → Reading
gives s a = record { Answer = (Result MapSays Refusal); gives = map.map_at s 0; says = a }

abbrev wrong : List ℕ → ℕ → Reading
wrong s p = gives s (Err (refusal fault.WrongForm p))

abbrev other : List ℕ → Fault → ℕ → Reading
other s f p = gives s (Err (refusal f p))

-- accepted, with so many listed tracks
abbrev listing : List ℕ → ℕ → Reading
listing s n = gives s (Ok (saying n (Some 0)))

-- the name of track 1 in an opening and a closing map
abbrev named : List ℕ → List ℕ → ℕ → Reading
named opening closing p = record { Answer = (Result OfTwo Refusal); gives = names.name_of_two_at opening closing 1; says = Err (refusal fault.WrongForm p) }

-- the record of track 1, of a type, with a null name at a place: neither a 4D nor a 4F is shown, and no aspect
abbrev hidden : List ℕ → ℕ → ℕ → Reading
hidden s media_type at =
    record {
      Answer = (Result Track Refusal);
      gives = map.track_at s 0 0;
      says =
          Ok
          (record {
            id = 1;
            media_type = media_type;
            rate = code.NotAvailable;
            lines = code.Absent;
            fields = code.Absent;
            version = None;
            name = Some (record { at = at; len = 1 });
            aux = None;
            mpeg = None;
            aspect = aspect.Unknown;
          });
    }

unfoldable pub forms : List Reading
forms =
    -- of its name and its rate `with` makes M; with `4F 02 41 00` behind the rate it has 48 bytes
    record { Answer = List ℕ; gives = with 0x8A (name ++ rate); says = M }
    ∷ record { Answer = ℕ; gives = length (with 0x8A (name ++ rate ++ mpeg)); says = 48 }
    -- that is 29 at 43, counted from the packet's start, at 60 of the lent bytes too; the record of its track is refused so, and a name, of one map and of two, the opening one first
    ∷ wrong (with 0x8A (name ++ rate ++ mpeg)) 43
    ∷ record { Answer = (Result MapSays Refusal); gives = map.map_at (replicate 60 7 ++ with 0x8A (name ++ rate ++ mpeg)) 60; says = Err (refusal fault.WrongForm 43) }
    ∷ record { Answer = (Result Track Refusal); gives = map.track_at (with 0x8A (name ++ rate ++ mpeg)) 0 0; says = Err (refusal fault.WrongForm 43) }
    ∷ record { Answer = (Result Part Refusal); gives = names.name_at (with 0x8A (name ++ rate ++ mpeg)) 1; says = Err (refusal fault.WrongForm 43) }
    ∷ named (with 0x8A (name ++ rate ++ mpeg)) (with 0x8B aux) 43
    ∷ named (with 0x8A name) (with 0x8B aux) 32
    -- with a null name, before it and behind it: accepted, and the 4F is not shown; nor is the 4D of an MPEG track
    ∷ listing (with 0x8A (null ++ rate ++ mpeg)) 1
    ∷ hidden (with 0x8A (null ++ rate ++ mpeg)) 10 34
    ∷ listing (with 0x8A (rate ++ mpeg ++ null)) 1
    ∷ hidden (with 0x8A (rate ++ mpeg ++ null)) 10 44
    ∷ listing (with 0x8B (null ++ rate ++ aux)) 1
    ∷ hidden (with 0x8B (null ++ rate ++ aux)) 11 34
    -- a null name lifts it from its own track alone, whichever stands first
    ∷ wrong (tracked (track 0x8A 0xC1 null ++ track 0x8A 0xC2 mpeg)) 39
    ∷ wrong (tracked (track 0x8A 0xC1 mpeg ++ track 0x8A 0xC2 null)) 32
    -- without any name: 29
    ∷ wrong (with 0x8A (rate ++ mpeg)) 38
    -- on type 19, which is reserved, either form is accepted, and the track is not listed; both of them are 10 there too
    ∷ listing (with 0x93 (name ++ rate ++ mpeg)) 0
    ∷ listing (with 0x93 (name ++ rate ++ aux)) 0
    ∷ other (with 0x93 (mpeg ++ aux)) fault.Twice 36
    -- types 11, 12, 20, 22 and 23 with a 4D, and with a 4F
    ∷ wrong (with 0x8B (name ++ rate ++ aux)) 43
    ∷ wrong (with 0x8C (name ++ rate ++ aux)) 43
    ∷ wrong (with 0x94 (name ++ rate ++ aux)) 43
    ∷ wrong (with 0x96 (name ++ rate ++ aux)) 43
    ∷ wrong (with 0x97 (name ++ rate ++ aux)) 43
    ∷ listing (with 0x8B mpeg) 1
    ∷ listing (with 0x8C mpeg) 1
    ∷ listing (with 0x94 mpeg) 1
    ∷ listing (with 0x96 mpeg) 1
    ∷ listing (with 0x97 mpeg) 1
    -- their neighbours 10, 13, 21 and 24 the other way
    ∷ listing (with 0x8A aux) 1
    ∷ listing (with 0x8D aux) 1
    ∷ listing (with 0x95 aux) 1
    ∷ listing (with 0x98 aux) 1
    ∷ wrong (with 0x8D mpeg) 32
    ∷ wrong (with 0x95 mpeg) 32
    ∷ wrong (with 0x98 mpeg) 32
    -- a lone 00 in the 4F is no null name
    ∷ wrong (with 0x8A (name ++ (0x4F ∷ 1 ∷ 0 ∷ []))) 37
    -- in the same track 8 of a later item goes before it, and so do 9, 11 and 10
    ∷ other (with 0x8A (mpeg ++ (0x50 ∷ 4 ∷ 0xFF ∷ []))) fault.Overhang 36
    ∷ other (with 0x8A (mpeg ++ (0x50 ∷ 3 ∷ 0 ∷ 0 ∷ 0 ∷ []))) fault.ItemSize 36
    ∷ other (with 0x8A (mpeg ++ (0x4C ∷ 1 ∷ 0x41 ∷ []))) fault.Text 36
    ∷ other (with 0x8A (mpeg ++ aux)) fault.Twice 36
    ∷ other (with 0x8B (aux ++ mpeg)) fault.Twice 42
    -- it goes before the next header: one cut short, a type byte under 80, an ID byte under C0, items that pass the section, the same ID again
    ∷ wrong (tracked (track 0x8A 0xC1 mpeg ++ (0x8A ∷ 0xC2 ∷ []))) 32
    ∷ wrong (tracked (track 0x8A 0xC1 mpeg ++ (0x05 ∷ 0xC2 ∷ 0 ∷ 0 ∷ []))) 32
    ∷ wrong (tracked (track 0x8A 0xC1 mpeg ++ (0x8A ∷ 0x02 ∷ 0 ∷ 0 ∷ []))) 32
    ∷ wrong (tracked (track 0x8A 0xC1 mpeg ++ (0x8A ∷ 0xC2 ∷ 0 ∷ 9 ∷ []))) 32
    ∷ wrong (tracked (track 0x8A 0xC1 mpeg ++ track 0x8A 0xC1 [])) 32
    -- of two the first is named, behind a track that passes and an unlisted one with a 4D
    ∷ wrong (tracked (track 0x8A 0xC1 rate ++ track 0x93 0xC2 aux ++ track 0x8A 0xC3 mpeg ++ track 0x8B 0xC4 aux)) 56
    ∷ []

-- what the map writer says of a lent text and tracks, in a buffer of so many bytes
abbrev writing : ℕ → List ℕ → List ℕ → Result ℕ Refusal → Reading
writing n lent ts a = record { Answer = (Result ℕ Refusal); gives = writer.map_written_answer (replicate n 7) 0 lent (material 0) ts; says = a }

-- a track without a name, with slots for a 4D and a 4F
abbrev pub formed : ℕ → ℕ → List ℕ → List ℕ → List ℕ
formed media_type id aux mpeg = (media_type ∷ id ∷ []) ++ absent ++ aux ++ absent ++ mpeg ++ replicate 9 0

-- eight bytes for a 4D
abbrev eight : List ℕ
eight = replicate 8 1

unfoldable pub given : List Reading
given =
    -- a 4F on types 10, 21 and 24, a 4D on 11 and 23: 29 without room, and on 10 with it; with the right one the room alone lacks, and with 40 bytes it is written
    writing 0 text (formed 10 1 absent (at 0 2)) (refused fault.WrongForm)
    ∷ writing 100 text (formed 10 1 absent (at 0 2)) (refused fault.WrongForm)
    ∷ writing 0 text (formed 21 1 absent (at 0 2)) (refused fault.WrongForm)
    ∷ writing 0 text (formed 24 1 absent (at 0 2)) (refused fault.WrongForm)
    ∷ writing 0 eight (formed 11 1 (at 0 8) absent) (refused fault.WrongForm)
    ∷ writing 0 eight (formed 23 1 (at 0 8) absent) (refused fault.WrongForm)
    ∷ writing 0 text (formed 20 1 absent (at 0 2)) (refused fault.Room)
    ∷ writing 40 text (formed 20 1 absent (at 0 2)) (Ok 40)
    ∷ writing 0 eight (formed 13 1 (at 0 8) absent) (refused fault.Room)
    -- 24, 11 and 10 of a later track go before it; and 29 of a later one before 13
    ∷ writing 0 text (formed 10 1 absent (at 0 2) ++ track_given 5 2 absent absent) (refused fault.Barred)
    ∷ writing 0 (0x41 ∷ 0x80 ∷ []) (formed 10 1 absent (at 0 1) ++ track_given 10 2 (at 0 2) absent) (refused fault.Text)
    ∷ writing 0 text (formed 10 1 absent (at 0 2) ++ track_given 10 1 absent absent) (refused fault.Twice)
    ∷ writing 0 text (track_given 10 1 absent absent ++ formed 10 2 absent (at 0 2)) (refused fault.WrongForm)
    -- beside a null name either form is 24 on either type
    ∷ writing 0 text ((10 ∷ 1 ∷ []) ++ at 0 0 ++ absent ++ absent ++ at 0 2 ++ replicate 9 0) (refused fault.Barred)
    ∷ writing 0 text ((11 ∷ 1 ∷ []) ++ at 0 0 ++ absent ++ absent ++ at 0 2 ++ replicate 9 0) (refused fault.Barred)
    ∷ writing 0 eight ((10 ∷ 1 ∷ []) ++ at 0 0 ++ at 0 8 ++ replicate 15 0) (refused fault.Barred)
    ∷ writing 0 eight ((11 ∷ 1 ∷ []) ++ at 0 0 ++ at 0 8 ++ replicate 15 0) (refused fault.Barred)
    ∷ []
