-- What a media description says of a segment (RDD 14, Table 19 and its notes; 02, §1).
-- The table's lists are data, and one rule goes by them: a value outside its list counts as absent. Numbers without a list are as stored, reserved words are left out.
use Rattle.std.specs.Prelude.{ℕ, ◌+◌, ◌/◌, ◌%◌, Bool, true, false, List, [], ◌∷◌, take, drop, eqb, ltb, pos, Float, Option, Some, None, Result, Ok, Err}
use Rattle.std.specs.Float.Ieee as Ieee
use Rattle.std.specs.Float.{fin, binary64}
use Rattle.plate.specs.Choice.{pick, within}
use Rattle.plate.specs.Plate.{refusal}
use Rattle.number.specs.Number.{le}
use Rattle.map_items.specs.Judge.{has}
use Rattle.map_items.specs.Find.{missing, found}
use Rattle.umf.specs.Umf.{Asked, refused, answered, asked_at}
use Rattle.umf.specs.declared.Described.TheVariants.{Segments}
use Rattle.umf_answer.specs.Says.{shown_if, track_shown}
use Rattle.segment.specs.declared.Mpeg.{Mpeg}
use Rattle.segment.specs.declared.Audio.{Audio}
use Rattle.segment.specs.declared.Jpeg.{Jpeg}
use Rattle.segment.specs.declared.Specification.{Specification}
use Rattle.segment.specs.declared.Specification.TheVariants as specification
use Rattle.segment.specs.declared.Segment.{Segment}
use Rattle.map_items.specs.declared.Part.{Part}
use Rattle.plate.specs.declared.Refusal.{Refusal}
use Rattle.plate.specs.declared.Fault.TheVariants as fault

-- the values that a field may have: any, or those of a list
pub data Values : Type 0 where
  any : Values
  one_of : List ℕ → Values

unfoldable pub allowed : Values → ℕ → Bool
allowed any n = true
allowed (one_of l) n = has n l

abbrev pub shown : Values → ℕ → Option ℕ
shown v n = shown_if (allowed v n) n

-- the type of media track: 1 Motion JPEG, 2 audio, 3 time code, 4 MPEG-2 SD, 5 DV 25, 6 DV 50, 7 MPEG-2 HD, 8 ancillary data, 9 MPEG-1, 10 DV 100, 11 AVC-Intra
unfoldable pub is_type : ℕ → Bool
is_type t = within 1 11 t

-- sampling rates by type: audio 48,000; ancillary data in bytes a second; video and its time code
unfoldable pub rates_of : ℕ → List ℕ
rates_of t =
    pick (eqb t 2) (48000 ∷ [])
    (pick (eqb t 8) (392822 ∷ 327680 ∷ 280587 ∷ 234057 ∷ [])
    (pick (is_type t) (60 ∷ 50 ∷ 25 ∷ 30 ∷ 24 ∷ []) []))

-- size of a sample or data rate by type: audio words of 16 and 24 bits; time code 64, and 16 and 32 by the note; DV and AVC-Intra their rates; ancillary data fields; of JPEG and MPEG an approximate rate
unfoldable pub sizes_of : ℕ → Values
sizes_of t =
    pick (eqb t 2) (one_of (16 ∷ 24 ∷ []))
    (pick (eqb t 3) (one_of (16 ∷ 32 ∷ 64 ∷ []))
    (pick (eqb t 5) (one_of (25000000 ∷ []))
    (pick (eqb t 6) (one_of (50000000 ∷ []))
    (pick (eqb t 8) (one_of (10 ∷ 14 ∷ []))
    (pick (eqb t 10) (one_of (100000000 ∷ []))
    (pick (eqb t 11) (one_of (50000000 ∷ 100000000 ∷ []))
    (pick (is_type t) any (one_of []))))))))

-- color difference format, GOP structure, frame or field structure, time code attributes
abbrev pub formats : List ℕ
formats = 1 ∷ 2 ∷ []

abbrev pub gops : List ℕ
gops = 0 ∷ 1 ∷ 0xFF ∷ []

abbrev pub structures : List ℕ
structures = 0 ∷ 1 ∷ 2 ∷ 3 ∷ []

abbrev pub drops : List ℕ
drops = 0 ∷ 1 ∷ 0xFF ∷ []

-- attributes that are or-ed together: the low six bits, one value of a list; bits 6 and 7, the aspect, another, in units of 40; above them nothing, or 8n00 for the active format descriptor
unfoldable pub is_mask : List ℕ → List ℕ → ℕ → Bool
is_mask lows aspects n =
    pick (has (n % 64) lows)
    (pick (has (n / 64 % 4) aspects) (pick (eqb (n / 256) 0) true (within 0x80 0x8F (n / 256))) false)
    false

-- MPEG: 0 unknown, 1 MPEG-1, 2 MPEG-2, 4 MPEG-2 with constant bytes a group; DV: 20 is DVCAM; AVC-Intra none. 40 is 4x3, 80 is 16x9, one of them at most, and AVC-Intra has 80 alone
abbrev pub mpeg_mask : ℕ → Bool
mpeg_mask n = is_mask (0 ∷ 1 ∷ 2 ∷ 4 ∷ []) (0 ∷ 1 ∷ 2 ∷ []) n

abbrev pub dv_mask : ℕ → Bool
dv_mask n = is_mask (0 ∷ 0x20 ∷ []) (0 ∷ 1 ∷ 2 ∷ []) n

abbrev pub avc_mask : ℕ → Bool
avc_mask n = is_mask (0 ∷ []) (0 ∷ 2 ∷ []) n

-- FLOAT64 by its bits; one that is not a number counts as absent
unfoldable pub number_of : ℕ → Option Float
number_of b = pick (Ieee.nan_bits binary64 b) None (Some (Ieee.of_bits binary64 b))

-- 0.0 and 8.0
abbrev pub lowest : Float
lowest = fin false 0 (pos 0)

abbrev pub highest : Float
highest = fin false 1 (pos 3)

-- the level of an audio segment, 0.0 to 8.0 as floats compare; outside of that it counts as absent, and is not brought to an end of the range
unfoldable pub in_range : Float → Option Float
in_range x = pick (Ieee.le lowest x) (pick (Ieee.le x highest) (Some x) None) None

unfoldable pub level_of : ℕ → Option Float
level_of b = pick (Ieee.nan_bits binary64 b) None (in_range (Ieee.of_bits binary64 b))

-- the specification, 32 bytes from 128 on
unfoldable pub mpeg_of : List ℕ → Mpeg
mpeg_of d =
    record {
      format = shown (one_of formats) (le d 128 4);
      gop = shown (one_of gops) (le d 132 4);
      structure = shown (one_of structures) (le d 136 4);
      i_pictures = le d 140 4;
      p_pictures = le d 144 4;
      b_pictures = le d 148 4;
      attributes = shown_if (mpeg_mask (le d 152 4)) (le d 152 4);
    }

unfoldable pub audio_of : List ℕ → Audio
audio_of d = record { level = level_of (le d 128 8); end_level = level_of (le d 136 8); ramp_up = le d 144 4; ramp_down = le d 148 4 }

unfoldable pub jpeg_of : List ℕ → Jpeg
jpeg_of d = record { most_color = number_of (le d 128 8); most_luma = number_of (le d 136 8); least_color = number_of (le d 144 8); least_luma = number_of (le d 152 8) }

-- by type: 4, 7, 9 MPEG; 3 time code; 2 audio; 5, 6, 10 DV; 11 AVC-Intra; 1 Motion JPEG; 8 ancillary data, all reserved
unfoldable pub specification_of : ℕ → List ℕ → Option Specification
specification_of t d =
    pick (has t (4 ∷ 7 ∷ 9 ∷ [])) (Some (specification.OfMpeg (mpeg_of d)))
    (pick (eqb t 3) (Some (specification.OfTimeCode (shown (one_of drops) (le d 128 4))))
    (pick (eqb t 2) (Some (specification.OfAudio (audio_of d)))
    (pick (has t (5 ∷ 6 ∷ 10 ∷ [])) (Some (specification.OfDv (shown_if (dv_mask (le d 128 4)) (le d 128 4))))
    (pick (eqb t 11) (Some (specification.OfAvc (shown_if (avc_mask (le d 128 4)) (le d 128 4))))
    (pick (eqb t 1) (Some (specification.OfJpeg (jpeg_of d)))
    (pick (eqb t 8) (Some specification.OfAncillary) None))))))

-- STRING (Table 1): the bytes before the first 00, ASCII; of bytes that begin at place q, n being passed: where it stands, and its length without the 00; absent where there is no 00, or a byte over 7F before it
unfoldable pub name_from : ℕ → ℕ → List ℕ → Option Part
name_from q n [] = None
name_from q n (b ∷ s) = pick (eqb b 0) (Some (record { at = q; len = n })) (pick (ltb 0x7F b) None (name_from q (n + 1) s))

-- the source device media file name: 88 bytes from 24 on
abbrev pub name_of : ℕ → List ℕ → Option Part
name_of q d = name_from (q + 24) 0 (take 88 (drop 24 d))

-- a media description's bytes, which begin at place q of the packet
unfoldable pub segment_of : ℕ → List ℕ → Segment
segment_of q d =
    record {
      track = track_shown (le d 2 2);
      sequence = le d 4 2;
      fields = le d 8 4;
      mark_in = le d 16 4;
      mark_out = le d 20 4;
      name = name_of q d;
      media = shown_if (is_type (le d 112 4)) (le d 112 4);
      rate = shown (one_of (rates_of (le d 112 4))) (le d 116 4);
      size = shown (sizes_of (le d 112 4)) (le d 120 4);
      specification = specification_of (le d 112 4) d;
    }

-- number n of the UMF packet at a position; 16 where there is no such
abbrev pub segment_in : Asked → Result Segment Refusal
segment_in (refused r) = Err r
segment_in (answered missing) = Err (refusal fault.NotThere 0)
segment_in (answered (found q d)) = Ok (segment_of q d)

unfoldable pub segment_at : List ℕ → ℕ → ℕ → Result Segment Refusal
segment_at s at n = segment_in (asked_at s at Segments n)
