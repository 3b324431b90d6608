-- The aspect of a track (02, §11; RDD 14, Tables 7, 8 and 9), by its bare type, the bytes of the 4D that it shows and those of the 4F; where it shows none there are no bytes.
use Rattle.std.specs.Prelude.{ℕ, ◌+◌, ◌*◌, ◌/◌, ◌%◌, ◌^◌, List, get_or, eqb, Result, Ok, Err}
use Rattle.plate.specs.Choice.{pick, within}
use Rattle.media_type.specs.MediaType.{mpeg_type}
use Rattle.mpeg_parameter.specs.declared.ParameterValue.{ParameterValue}
use Rattle.mpeg_parameter.specs.declared.ParameterValue.TheVariants.{Whole, Rate}
use Rattle.mpeg.specs.Read.{read_of}
use Rattle.map_aspect.specs.declared.Aspect.{Aspect}
use Rattle.map_aspect.specs.declared.Aspect.TheVariants.{FourByThree, SixteenByNine, Unknown}
use Rattle.mpeg_parameter.specs.declared.Parameters.{Parameters}
use Rattle.plate.specs.declared.Refusal.{Refusal}

-- all three tables: 0 is 4x3, 1 is 16x9
unfoldable pub aspect_for : ℕ → Aspect
aspect_for n = pick (eqb n 0) FourByThree (pick (eqb n 1) SixteenByNine Unknown)

-- bit k of a 4D (Tables 8 and 9, "0:LSB"; 02): byte 0 holds bits 0 to 7, the next byte the next eight
unfoldable pub bit_at : ℕ → List ℕ → ℕ
bit_at k v = get_or v (k / 8) 0 / 2 ^ (k % 8) % 2

-- bits 30 and 31 as one number, bit 30 the low one; 1 is valid, 0 is not, the others are reserved
unfoldable pub validity : List ℕ → ℕ
validity v = bit_at 30 v + 2 * bit_at 31 v

-- by bit k of a valid 4D
unfoldable pub dv_aspect : ℕ → List ℕ → Aspect
dv_aspect k v = pick (eqb (validity v) 1) (aspect_for (bit_at k v)) Unknown

-- Table 7: by `ar`, as the auxiliary text's reader gives it; `ar` is never a rate
abbrev pub by_ar : ParameterValue → Aspect
by_ar (Whole n) = aspect_for n
by_ar (Rate x) = Unknown

abbrev pub by_answer : Result Parameters Refusal → Aspect
by_answer (Ok x) = by_ar x.ar
by_answer (Err r) = Unknown

unfoldable pub text_aspect : List ℕ → Aspect
text_aspect v = by_answer (read_of v)

-- MPEG video by its text; DV-based 25 Mb/s (13, 14) by bit 4, DV-based 50 Mb/s (15, 16) by bit 0; every other type is unknown
unfoldable pub aspect_of : ℕ → List ℕ → List ℕ → Aspect
aspect_of media_type aux text =
    pick (mpeg_type media_type) (text_aspect text)
    (pick (within 13 14 media_type) (dv_aspect 4 aux)
    (pick (within 15 16 media_type) (dv_aspect 0 aux) Unknown))
