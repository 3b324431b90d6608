-- Readings of the aspect in a track's record (02, §11; RDD 14, Tables 7, 8 and 9), of whole maps; three are of texts alone, three of what the writer says, two of bytes. Proved in proofs/Aspects.antt.
use Rattle.std.specs.Prelude.{ℕ, suc, List, [], ◌∷◌, ◌++◌, map as each, length, take, drop, replicate, Option, Some, None, Result, Ok, Err}
use Rattle.plate.specs.Plate.{refusal}
use Rattle.mpeg.specs.Meaning.{Number, none, is}
use Rattle.mpeg.specs.Read.{read_of}
use Rattle.map_items.specs.Items.{Item}
use Rattle.map_aspect.specs.Meaning.{number_of}
use Rattle.map_aspect.specs.declared.Aspect.{Aspect}
use Rattle.map_aspect.specs.declared.Aspect.TheVariants.{FourByThree, SixteenByNine, Unknown}
use Rattle.map_tracks.specs.Tracks as tracks
use Rattle.map.specs.Map as map
use Rattle.map_records.specs.Fill as fill
use Rattle.map_answer.specs.declared.Track.{Track}
use Rattle.map_answer.specs.declared.Code.TheVariants as code
use Rattle.mpeg_parameter.specs.declared.Parameters.{Parameters}
use Rattle.plate.specs.declared.Refusal.{Refusal}
use Rattle.map_newer.specs.Strike.{strike, in_track, set_in}
use Rattle.map_writer.specs.Write as writer
use Rattle.map_writer.proofs.Worked.{absent, at, material}
use Rattle.paper_readings.specs.Table.{Reading}
use Rattle.paper_readings.specs.Forms.{tracked, track, with, name, null, formed}
use Rattle.plate.specs.declared.Fault.{Fault}
use Rattle.plate.specs.declared.Fault.TheVariants as fault

-- a record's aspect by the paper's number; where there is no record 2, which no aspect is
abbrev number_in : Result Track Refusal → Number
number_in (Ok t) = number_of t.aspect
number_in (Err r) = is 2

abbrev number_found : Option Track → Number
number_found (Some t) = number_of t.aspect
number_found None = is 2

abbrev by_number : List ℕ → ℕ → ℕ → Number → Reading
by_number s at k n = record { Answer = Number; gives = number_in (map.track_at s at k); says = n }

abbrev by_id : List ℕ → ℕ → Number → Reading
by_id p id n = record { Answer = Number; gives = number_found (tracks.id_of id (map.listed_in p)); says = n }

-- of the first track
abbrev aspect : List ℕ → Number → Reading
aspect s n = by_number s 0 0 n

-- by its case; where there is no record there is no case, which no reading here says
abbrev case_in : Result Track Refusal → List Aspect
case_in (Ok t) = t.aspect ∷ []
case_in (Err r) = []

abbrev shows : List ℕ → Aspect → Reading
shows s a = record { Answer = List Aspect; gives = case_in (map.track_at s 0 0); says = a ∷ [] }

-- three lent records after a call; before it each is one that no map gives, with the aspect 16x9
abbrev before : Track
before =
    record {
      id = 255;
      media_type = 255;
      rate = code.Absent;
      lines = code.Absent;
      fields = code.Absent;
      version = None;
      name = None;
      aux = None;
      mpeg = None;
      aspect = SixteenByNine;
    }

abbrev lent : List ℕ → List Number → Reading
lent s ns =
    record {
      Answer = List Number;
      gives = each (λ t. number_of t.aspect) (fill.lent_after (fill.records_at s 0) (replicate 3 before) (fill.answer_for s 0 3));
      says = ns;
    }

-- what the map writer says of a lent text and one track's words, in a buffer of 200 bytes; and the first record of the packet that it puts there
abbrev writes : List ℕ → List ℕ → ℕ → Reading
writes text ts n = record { Answer = (Result ℕ Refusal); gives = writer.map_written_answer (replicate 200 7) 0 text (material 0) ts; says = Ok n }

abbrev written : List ℕ → List ℕ → Number → Reading
written text ts n = by_number (writer.map_packet text (material 0) ts) 0 0 n

-- the bytes of a packet
abbrev bytes : List ℕ → List ℕ → Reading
bytes p q = record { Answer = List ℕ; gives = p; says = q }

-- a 4D by its bytes 0 and 3, with its other bytes 00, and with them FF
abbrev binary : ℕ → ℕ → List ℕ
binary first fourth = 0x4D ∷ 8 ∷ first ∷ 0 ∷ 0 ∷ fourth ∷ replicate 4 0

abbrev others : ℕ → ℕ → List ℕ
others first fourth = 0x4D ∷ 8 ∷ first ∷ 0xFF ∷ 0xFF ∷ fourth ∷ replicate 4 0xFF

-- a 4F of lines and the closing 00
abbrev text : List ℕ → List ℕ
text lines = 0x4F ∷ suc (length lines) ∷ (lines ++ (0 ∷ []))

-- what the auxiliary reader refuses a text of lines with
abbrev reads : List ℕ → Fault → ℕ → Reading
reads lines f p = record { Answer = (Result Parameters Refusal); gives = read_of (lines ++ (0 ∷ [])); says = Err (refusal f p) }

-- every parameter that must be given, 72 bytes: Ver 1, Br 0.5, Ipg 1, Ppi 4, Bpiop 2, Pix 0, Cf 1, Cg 0, Sl 7, nl16 36, Vi 1, f1 1
abbrev parameters : List ℕ
parameters =
    0x56 ∷ 0x65 ∷ 0x72 ∷ 0x20 ∷ 0x31 ∷ 0x0A
    ∷ 0x42 ∷ 0x72 ∷ 0x20 ∷ 0x30 ∷ 0x2E ∷ 0x35 ∷ 0x0A
    ∷ 0x49 ∷ 0x70 ∷ 0x67 ∷ 0x20 ∷ 0x31 ∷ 0x0A
    ∷ 0x50 ∷ 0x70 ∷ 0x69 ∷ 0x20 ∷ 0x34 ∷ 0x0A
    ∷ 0x42 ∷ 0x70 ∷ 0x69 ∷ 0x6F ∷ 0x70 ∷ 0x20 ∷ 0x32 ∷ 0x0A
    ∷ 0x50 ∷ 0x69 ∷ 0x78 ∷ 0x20 ∷ 0x30 ∷ 0x0A
    ∷ 0x43 ∷ 0x66 ∷ 0x20 ∷ 0x31 ∷ 0x0A
    ∷ 0x43 ∷ 0x67 ∷ 0x20 ∷ 0x30 ∷ 0x0A
    ∷ 0x53 ∷ 0x6C ∷ 0x20 ∷ 0x37 ∷ 0x0A
    ∷ 0x6E ∷ 0x6C ∷ 0x31 ∷ 0x36 ∷ 0x20 ∷ 0x33 ∷ 0x36 ∷ 0x0A
    ∷ 0x56 ∷ 0x69 ∷ 0x20 ∷ 0x31 ∷ 0x0A
    ∷ 0x66 ∷ 0x31 ∷ 0x20 ∷ 0x31 ∷ 0x0A
    ∷ []

-- `ar` with a digit; `cbpg 1`; `AR 1`
abbrev ar : ℕ → List ℕ
ar digit = 0x61 ∷ 0x72 ∷ 0x20 ∷ digit ∷ 0x0A ∷ []

abbrev cbpg : List ℕ
cbpg = 0x63 ∷ 0x62 ∷ 0x70 ∷ 0x67 ∷ 0x20 ∷ 0x31 ∷ 0x0A ∷ []

abbrev capitals : List ℕ
capitals = 0x41 ∷ 0x52 ∷ 0x20 ∷ 0x31 ∷ 0x0A ∷ []

-- an unknown item, as bytes and as an item, and the reserved rate 9
abbrev unknown : List ℕ
unknown = 0x7E ∷ 1 ∷ 0x55 ∷ []

abbrev unknown_item : Item
unknown_item = record { tag = 0x7E; value = 0x55 ∷ [] }

abbrev reserved : List ℕ
reserved = 0x50 ∷ 4 ∷ 0 ∷ 0 ∷ 0 ∷ 9 ∷ []

-- two tracks: ID 1, type 13, 16x9; ID 2, type 15, 4x3
abbrev two : List ℕ
two = tracked (track 0x8D 0xC1 (binary 0x10 0x40) ++ track 0x8F 0xC2 (binary 0 0x40))

-- two tracks: ID 1, type 11, a text that says 16x9 and lacks its last 0A; ID 2, type 12, one that reads and says nothing
abbrev beside : List ℕ
beside = tracked (track 0x8B 0xC1 (text (parameters ++ take 4 (ar 0x31))) ++ track 0x8C 0xC2 (text parameters))

unfoldable pub aspects : List Reading
aspects =
    -- by its case, too: 4x3, 16x9, unknown
    shows (with 0x8D (name ++ binary 0x00 0x40)) FourByThree
    ∷ shows (with 0x8D (name ++ binary 0x10 0x40)) SixteenByNine
    ∷ shows (with 0x8D name) Unknown
    -- type 13: bit 4 of byte 0, where the validity, in byte 3, reads 1; validity 0, 2 and 3 are unknown
    ∷ aspect (with 0x8D (name ++ binary 0x10 0x40)) (is 1)
    ∷ aspect (with 0x8D (name ++ binary 0x00 0x40)) (is 0)
    ∷ aspect (with 0x8D (name ++ binary 0x10 0x00)) none
    ∷ aspect (with 0x8D (name ++ binary 0x10 0x80)) none
    ∷ aspect (with 0x8D (name ++ binary 0x10 0xC0)) none
    ∷ aspect (with 0x8D (name ++ binary 0x10 0x7F)) (is 1)
    -- no other bit counts: all others of the item set; and all of them, but for the validity, which is 0
    ∷ aspect (with 0x8D (name ++ others 0xEF 0x7F)) (is 0)
    ∷ aspect (with 0x8D (name ++ others 0xFF 0x7F)) (is 1)
    ∷ aspect (with 0x8D (name ++ others 0xFF 0x3F)) none
    -- type 14: bit 0, which DVCAM sets, is no aspect
    ∷ aspect (with 0x8E (name ++ binary 0x01 0x40)) (is 0)
    ∷ aspect (with 0x8E (name ++ binary 0x11 0x40)) (is 1)
    ∷ aspect (with 0x8E (name ++ binary 0x11 0x00)) none
    ∷ aspect (with 0x8E (name ++ binary 0x11 0x80)) none
    ∷ aspect (with 0x8E (name ++ binary 0x11 0xC0)) none
    ∷ aspect (with 0x8E (name ++ others 0xEF 0x7F)) (is 0)
    ∷ aspect (with 0x8E (name ++ others 0xFF 0x7F)) (is 1)
    -- types 15 and 16: bit 0
    ∷ aspect (with 0x8F (name ++ binary 0x01 0x40)) (is 1)
    ∷ aspect (with 0x8F (name ++ binary 0x10 0x40)) (is 0)
    ∷ aspect (with 0x8F (name ++ binary 0x01 0x00)) none
    ∷ aspect (with 0x8F (name ++ binary 0x01 0x80)) none
    ∷ aspect (with 0x8F (name ++ binary 0x01 0xC0)) none
    ∷ aspect (with 0x8F (name ++ others 0xFE 0x7F)) (is 0)
    ∷ aspect (with 0x8F (name ++ others 0xFF 0x7F)) (is 1)
    ∷ aspect (with 0x90 (name ++ binary 0x01 0x40)) (is 1)
    ∷ aspect (with 0x90 (name ++ binary 0x10 0x40)) (is 0)
    ∷ aspect (with 0x90 (name ++ binary 0x01 0x00)) none
    ∷ aspect (with 0x90 (name ++ binary 0x01 0x80)) none
    ∷ aspect (with 0x90 (name ++ binary 0x01 0xC0)) none
    ∷ aspect (with 0x90 (name ++ others 0xFE 0x7F)) (is 0)
    ∷ aspect (with 0x90 (name ++ others 0xFF 0x7F)) (is 1)
    -- type 25, DV-based 100 Mb/s, has a validity and no aspect; type 26 has neither, and bit 4, which its writers set (Table 11), is no aspect
    ∷ aspect (with 0x99 (name ++ binary 0x11 0x40)) none
    ∷ aspect (with 0x99 (name ++ binary 0x11 0x00)) none
    ∷ aspect (with 0x99 (name ++ binary 0x11 0x80)) none
    ∷ aspect (with 0x99 (name ++ binary 0x11 0xC0)) none
    ∷ aspect (with 0x9A (name ++ binary 0x11 0x40)) none
    ∷ aspect (with 0x9A (name ++ binary 0x31 0x00)) none
    ∷ aspect (with 0x9A (name ++ binary 0x32 0x40)) none
    -- nor has any other type a 4D with one
    ∷ aspect (with 0x83 (name ++ binary 0x11 0x40)) none
    ∷ aspect (with 0x84 (name ++ binary 0x11 0x40)) none
    ∷ aspect (with 0x87 (name ++ binary 0x11 0x40)) none
    ∷ aspect (with 0x88 (name ++ binary 0x11 0x40)) none
    ∷ aspect (with 0x89 (name ++ binary 0x11 0x40)) none
    ∷ aspect (with 0x8A (name ++ binary 0x11 0x40)) none
    ∷ aspect (with 0x91 (name ++ binary 0x11 0x40)) none
    ∷ aspect (with 0x92 (name ++ binary 0x11 0x40)) none
    ∷ aspect (with 0x95 (name ++ binary 0x11 0x40)) none
    ∷ aspect (with 0x98 (name ++ binary 0x11 0x40)) none
    -- without a 4D
    ∷ aspect (with 0x8D (name)) none
    ∷ aspect (with 0x8E (name)) none
    ∷ aspect (with 0x8F (name)) none
    ∷ aspect (with 0x90 (name)) none
    ∷ aspect (with 0x99 (name)) none
    -- a 4D that a null name hides, with any validity, 4x3 or 16x9, before it and behind it
    ∷ aspect (with 0x8D (null ++ binary 0x10 0x00)) none
    ∷ aspect (with 0x8D (null ++ binary 0x10 0x40)) none
    ∷ aspect (with 0x8D (null ++ binary 0x10 0x80)) none
    ∷ aspect (with 0x8D (null ++ binary 0x10 0xC0)) none
    ∷ aspect (with 0x8E (null ++ binary 0x11 0x00)) none
    ∷ aspect (with 0x8E (null ++ binary 0x11 0x40)) none
    ∷ aspect (with 0x8E (null ++ binary 0x11 0x80)) none
    ∷ aspect (with 0x8E (null ++ binary 0x11 0xC0)) none
    ∷ aspect (with 0x8F (null ++ binary 0x01 0x00)) none
    ∷ aspect (with 0x8F (null ++ binary 0x01 0x40)) none
    ∷ aspect (with 0x8F (null ++ binary 0x01 0x80)) none
    ∷ aspect (with 0x8F (null ++ binary 0x01 0xC0)) none
    ∷ aspect (with 0x90 (null ++ binary 0x01 0x00)) none
    ∷ aspect (with 0x90 (null ++ binary 0x01 0x40)) none
    ∷ aspect (with 0x90 (null ++ binary 0x01 0x80)) none
    ∷ aspect (with 0x90 (null ++ binary 0x01 0xC0)) none
    ∷ aspect (with 0x99 (null ++ binary 0x11 0x00)) none
    ∷ aspect (with 0x99 (null ++ binary 0x11 0x40)) none
    ∷ aspect (with 0x99 (null ++ binary 0x11 0x80)) none
    ∷ aspect (with 0x99 (null ++ binary 0x11 0xC0)) none
    ∷ aspect (with 0x8D (null ++ binary 0x00 0x40)) none
    ∷ aspect (with 0x8E (null ++ binary 0x00 0x40)) none
    ∷ aspect (with 0x8F (null ++ binary 0x00 0x40)) none
    ∷ aspect (with 0x90 (null ++ binary 0x00 0x40)) none
    ∷ aspect (with 0x8D (binary 0x11 0x40 ++ null)) none
    -- and an item of the wrong form that is accepted there
    ∷ aspect (with 0x8D (null ++ text (parameters ++ ar 0x31))) none
    ∷ aspect (with 0x8A (null ++ text (parameters ++ ar 0x31))) none
    ∷ aspect (with 0x8B (null ++ binary 0x11 0x40)) none
    -- MPEG video, types 11, 12, 20, 22 and 23: `ar 1`; no `ar`, which is 4x3; and a text without its last 0A, with which the map is accepted
    ∷ aspect (with 0x8B (name ++ text (parameters ++ ar 0x31))) (is 1)
    ∷ aspect (with 0x8C (name ++ text (parameters ++ ar 0x31))) (is 1)
    ∷ aspect (with 0x94 (name ++ text (parameters ++ ar 0x31))) (is 1)
    ∷ aspect (with 0x96 (name ++ text (parameters ++ ar 0x31))) (is 1)
    ∷ aspect (with 0x97 (name ++ text (parameters ++ ar 0x31))) (is 1)
    ∷ aspect (with 0x8B (name ++ text (parameters))) (is 0)
    ∷ aspect (with 0x8C (name ++ text (parameters))) (is 0)
    ∷ aspect (with 0x94 (name ++ text (parameters))) (is 0)
    ∷ aspect (with 0x96 (name ++ text (parameters))) (is 0)
    ∷ aspect (with 0x97 (name ++ text (parameters))) (is 0)
    ∷ aspect (with 0x8B (name ++ text (parameters ++ take 4 (ar 0x31)))) none
    ∷ aspect (with 0x8C (name ++ text (parameters ++ take 4 (ar 0x31)))) none
    ∷ aspect (with 0x94 (name ++ text (parameters ++ take 4 (ar 0x31)))) none
    ∷ aspect (with 0x96 (name ++ text (parameters ++ take 4 (ar 0x31)))) none
    ∷ aspect (with 0x97 (name ++ text (parameters ++ take 4 (ar 0x31)))) none
    -- `ar 0`; `ar 7`, which is outside the list and counts as absent; `cbpg 1`, which is another parameter; and `AR 1`, which is none
    ∷ aspect (with 0x8B (name ++ text (parameters ++ ar 0x30))) (is 0)
    ∷ aspect (with 0x8B (name ++ text (parameters ++ ar 0x37))) (is 0)
    ∷ aspect (with 0x8B (name ++ text (parameters ++ cbpg))) (is 0)
    ∷ aspect (with 0x8B (name ++ text (parameters ++ capitals))) (is 0)
    -- what the auxiliary reader says of texts that it refuses: 26 at the line, 10 at the second line, 27
    ∷ reads (parameters ++ take 4 (ar 0x31)) fault.AuxiliaryLine 72
    ∷ reads (parameters ++ ar 0x31 ++ ar 0x31) fault.Twice 77
    ∷ reads (drop 6 parameters ++ ar 0x31) fault.NotGiven 0
    -- so they are unknown, and so are `ar` twice with other values, a `Vi` outside its list, and a text without a line
    ∷ aspect (with 0x8B (name ++ text (parameters ++ ar 0x31 ++ ar 0x31))) none
    ∷ aspect (with 0x8B (name ++ text (parameters ++ ar 0x37 ++ ar 0x31))) none
    ∷ aspect (with 0x8B (name ++ text (parameters ++ ar 0x31 ++ ar 0x30))) none
    ∷ aspect (with 0x8B (name ++ text (drop 6 parameters ++ ar 0x31))) none
    ∷ aspect (with 0x8B (name ++ text (take 65 parameters ++ (0x30 ∷ drop 66 parameters) ++ ar 0x31))) none
    ∷ aspect (with 0x8B (name ++ text ([]))) none
    -- without a 4F, and under a null name, before it and behind it
    ∷ aspect (with 0x8B (name)) none
    ∷ aspect (with 0x8B (null)) none
    ∷ aspect (with 0x8B (null ++ text (parameters ++ ar 0x31))) none
    ∷ aspect (with 0x8C (null ++ text (parameters ++ ar 0x31))) none
    ∷ aspect (with 0x94 (null ++ text (parameters ++ ar 0x31))) none
    ∷ aspect (with 0x96 (null ++ text (parameters ++ ar 0x31))) none
    ∷ aspect (with 0x97 (null ++ text (parameters ++ ar 0x31))) none
    ∷ aspect (with 0x8B (text (parameters ++ ar 0x31) ++ null)) none
    ∷ aspect (with 0x8B (null ++ text parameters)) none
    ∷ aspect (with 0x8B (null ++ text (parameters ++ ar 0x30))) none
    ∷ aspect (with 0x8B (null ++ text (parameters ++ ar 0x37))) none
    ∷ aspect (with 0x8B (null ++ text (parameters ++ take 4 (ar 0x31)))) none
    ∷ aspect (with 0x8B (null ++ text (parameters ++ ar 0x31 ++ ar 0x31))) none
    ∷ aspect (with 0x8B (null ++ text (drop 6 parameters ++ ar 0x31))) none
    ∷ aspect (with 0x8B (null ++ text [])) none
    -- each track by its own items: by its number, at 60 of the lent bytes, by its ID, and in three lent records, of which the last stays
    ∷ by_number (replicate 60 7 ++ two) 60 0 (is 1)
    ∷ by_number (replicate 60 7 ++ two) 60 1 (is 0)
    ∷ by_id two 1 (is 1)
    ∷ by_id two 2 (is 0)
    ∷ lent two (is 1 ∷ is 0 ∷ is 1 ∷ [])
    -- a text that does not read takes nothing from the track behind it
    ∷ by_number beside 0 0 none
    ∷ by_number beside 0 1 (is 0)
    ∷ by_id beside 1 none
    ∷ by_id beside 2 (is 0)
    ∷ lent beside (none ∷ is 0 ∷ is 1 ∷ [])
    -- struck of an unknown item and a reserved rate, and with an unknown item set in before the 4D or the 4F; the first and the third also by their bytes
    ∷ bytes (strike (with 0x8D (name ++ unknown ++ reserved ++ binary 0x10 0x40))) (with 0x8D (name ++ binary 0x10 0x40))
    ∷ bytes (set_in (in_track 0 1) unknown_item (with 0x8F (name ++ binary 0x01 0x40))) (with 0x8F (name ++ unknown ++ binary 0x01 0x40))
    ∷ by_number (strike (with 0x8D (name ++ unknown ++ reserved ++ binary 0x10 0x40))) 0 0 (is 1)
    ∷ by_number (strike (with 0x8B (name ++ unknown ++ text (parameters ++ ar 0x31)))) 0 0 (is 1)
    ∷ by_number (set_in (in_track 0 1) unknown_item (with 0x8F (name ++ binary 0x01 0x40))) 0 0 (is 1)
    ∷ by_number (set_in (in_track 0 1) unknown_item (with 0x8B (name ++ text parameters))) 0 0 (is 0)
    -- written, and what is then read: of type 13, and of type 11 with a text that reads and with one that does not
    ∷ writes (0x10 ∷ 0 ∷ 0 ∷ 0x40 ∷ replicate 4 0) (formed 13 1 (at 0 8) absent) 44
    ∷ writes (parameters ++ ar 0x31) (formed 11 1 absent (at 0 77)) 112
    ∷ writes (parameters ++ ar 0x31) (formed 11 1 absent (at 0 76)) 112
    ∷ written (replicate 3 0 ++ (0x40 ∷ replicate 4 0)) (formed 16 1 (at 0 8) absent) (is 0)
    ∷ written (0x10 ∷ 0 ∷ 0 ∷ 0x40 ∷ replicate 4 0) (formed 13 1 (at 0 8) absent) (is 1)
    ∷ written (parameters ++ ar 0x31) (formed 11 1 absent (at 0 77)) (is 1)
    ∷ written (parameters ++ ar 0x31) (formed 11 1 absent (at 0 76)) none
    ∷ []
