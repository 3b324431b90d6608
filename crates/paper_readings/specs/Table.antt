-- The bench readings that 01 marks P: one table. That each gives what the paper says is proved in proofs/Table.antt.
use Rattle.std.specs.Prelude.{ℕ, ◌≡◌, List, [], ◌∷◌, ◌++◌, map as each, replicate, take, negsuc, Some, None, Result, Ok, Err}
use Rattle.packet.specs.Packet.{header_at, refused}
use Rattle.plate.specs.Plate.{refusal, torn}
use Rattle.plate.specs.declared.Refusal.{Refusal}
use Rattle.map_answer.specs.Answer as answer
use Rattle.map_aspect.specs.declared.Aspect.TheVariants as aspect
use Rattle.map_answer.specs.declared.Code.{Code}
use Rattle.map_answer.specs.declared.Code.TheVariants as code
use Rattle.map.specs.declared.MapSays.{MapSays}
use Rattle.map_answer.specs.declared.Track.{Track}
use Rattle.mpeg_parameter.specs.declared.Parameters.{Parameters}
use Rattle.packet.specs.declared.Packet.{Packet}
use Rattle.plate.specs.declared.Fault.TheVariants as fault
use Rattle.map.specs.Map as map
use Rattle.map.proofs.Samples.{headed, up_to_rate, M, newer, reserved, saying}
use Rattle.map_name.specs.Name as name
use Rattle.locator.specs.Locator as locator
use Rattle.mpeg_parameter.specs.Meaning as meaning
use Rattle.mpeg_parameter.specs.Meaning.{Meaning, number, float}
use Rattle.mpeg.specs.Read as mpeg
use Rattle.mpeg.specs.Meaning as text
use Rattle.mpeg.proofs.Worked as worked

-- a reading: what the definitions give, and what the paper says
pub record Reading : Type 1 where
  pub Answer : Type 0
  pub gives : Answer
  pub says : Answer

-- each reading of a table gives what the paper says
abbrev pub Agree : List Reading → Type 0
Agree [] = Unit {0}
Agree (r ∷ rs) = (r.gives ≡ r.says) × Agree rs

-- with 50 of length 3, nothing else changed
abbrev shorter : List ℕ
shorter = headed 0xBC 0x2C ++ up_to_rate 0x0F 0x0B ++ (0x50 ∷ 0x03 ∷ 0xFF ∷ 0xFF ∷ 0xFF ∷ 0xFE ∷ 0 ∷ [])

abbrev header : List ℕ → Result Packet Refusal → Reading
header s a = record { Answer = (Result Packet Refusal); gives = header_at s 0; says = a }

-- a map's answer: one listed track, first field 0
abbrev first_field0 : Result MapSays Refusal
first_field0 = Ok (saying 1 (Some 0))

-- its track: ID 1, type 10, a name of three stored bytes at 34, a rate, and no aspect
abbrev track1 : Code → Result Track Refusal
track1 rate =
    Ok
    (record {
      id = 1;
      media_type = 10;
      rate = rate;
      lines = code.Absent;
      fields = code.Absent;
      version = None;
      name = Some (record { at = 34; len = 3 });
      aux = None;
      mpeg = None;
      aspect = aspect.Unknown;
    })

abbrev map_of : List ℕ → Result MapSays Refusal → Reading
map_of s a = record { Answer = (Result MapSays Refusal); gives = map.map_at s 0; says = a }

abbrev track_of : List ℕ → Result Track Refusal → Reading
track_of s a = record { Answer = (Result Track Refusal); gives = map.track_at s 0 0; says = a }

-- the number of 01 that the first track's rate is (−2 is `negsuc 1`); a refused map gives 0, which no rate is
abbrev rate_in : Result Track Refusal → Code
rate_in (Ok t) = t.rate
rate_in (Err r) = code.Is 0

abbrev rate_of : List ℕ → answer.Meaning → Reading
rate_of s a = record { Answer = answer.Meaning; gives = answer.meaning_of (rate_in (map.track_at s 0 0)); says = a }

abbrev name_of : List ℕ → List ℕ → Reading
name_of s a = record { Answer = List ℕ; gives = name.name_bytes s (name.name_at s 1); says = a }

-- an FLT of step 40 with one entry, 4,194,304
abbrev flt : List ℕ
flt = headed 0xFC 28 ++ (40 ∷ 0 ∷ 0 ∷ 0 ∷ 1 ∷ 0 ∷ 0 ∷ 0 ∷ 0 ∷ 0 ∷ 0x40 ∷ 0 ∷ [])

abbrev position : ℕ → Result ℕ Refusal → Reading
position d a = record { Answer = (Result ℕ Refusal); gives = locator.position_at flt 0 d; says = a }

-- what an answer on auxiliary text means: every parameter, in the order of Table 7
pub data TextMeans : Type 0 where
  given : List Meaning → TextMeans
  refuses : Refusal → TextMeans

abbrev pub text_means : Result Parameters Refusal → TextMeans
text_means (Ok x) =
    given
    (each meaning.meaning_of
    (x.ver ∷ x.br ∷ x.ipg ∷ x.ppi ∷ x.bpiop ∷ x.pix ∷ x.cf ∷ x.cg ∷ x.sl ∷ x.nl16 ∷ x.vi ∷ x.f1 ∷ x.cbpg ∷ x.ar ∷ []))
text_means (Err r) = refuses r

-- the text of mpeg/proofs/Worked.antt, with `Br 0.5`; its other parameters are Ver 1, Ipg 1, Ppi 4, Bpiop 2, Pix 0, Cf 2, Cg 1, Sl 31, nl16 68, Vi 1, f1 1, no cbpg and no ar: the float is 0.5
abbrev pub br_half : TextMeans
br_half =
    given
    (number 1 ∷ float 0x3FE0000000000000 ∷ number 1 ∷ number 4 ∷ number 2 ∷ number 0 ∷ number 2 ∷ number 1 ∷ number 31 ∷ number 68 ∷ number 1 ∷ number 1 ∷ number 0 ∷ number 0 ∷ [])

unfoldable pub readings : List Reading
readings =
    -- type FB, length 16: accepted; 15 bytes of it: 1
    header (headed 0xFB 16) (Ok (record { packet_type = 0xFB; len = 16 }))
    ∷ header (take 15 (headed 0xFB 16)) (refused fault.FewBytes 0)
    -- length 12: 4
    ∷ header (headed 0xFB 12) (refused fault.PacketLength 0)
    -- length 20 with 19 bytes: 5, and one byte lacks
    ∷ header (headed 0xFB 20 ++ replicate 3 0) (Err (torn 0 1))
    -- M: first field 0, track 1, type 10, name A1, rate not available
    ∷ map_of M first_field0
    ∷ track_of M (track1 code.NotAvailable)
    ∷ rate_of M (answer.number (negsuc 1))
    ∷ name_of M (0x41 ∷ 0x31 ∷ [])
    -- M with `7E 01 55` after the rate: the same answer
    ∷ map_of newer first_field0
    ∷ track_of newer (track1 code.NotAvailable)
    ∷ rate_of newer (answer.number (negsuc 1))
    ∷ name_of newer (0x41 ∷ 0x31 ∷ [])
    -- M with rate 9: rate absent
    ∷ track_of reserved (track1 code.Absent)
    ∷ rate_of reserved answer.nothing
    -- M with 50 of length 3: 9 at 37
    ∷ map_of shorter (Err (refusal fault.ItemSize 37))
    -- FLT step 40, one entry 4,194,304: distance 39 gives 4,294,967,296; 40 gives 16
    ∷ position 39 (Ok 4294967296)
    ∷ position 40 (Err (refusal fault.NotThere 0))
    -- Br 0.5: N 500,000, float 0.5
    ∷ record { Answer = text.Number; gives = text.given_in worked.text 1; says = text.is 500000 }
    ∷ record { Answer = TextMeans; gives = text_means (mpeg.read_of worked.text); says = br_half }
    ∷ []
