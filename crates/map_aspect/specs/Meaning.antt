-- What the aspect of a track says (02, §11), by the numbers of Tables 7, 8 and 9. Proved in proofs/Meaning.antt.
use Rattle.std.specs.Prelude.{ℕ, ◌/◌, ◌%◌, ◌<◌, ◌≤◌, ◌≡◌, ◌⊎◌, List, [], get_or, Ok, Err}
use Rattle.plate.specs.declared.Refusal.{Refusal}
use Rattle.mpeg_parameter.specs.Meaning.{number, meaning_of}
use Rattle.mpeg_parameter.specs.declared.Parameters.{Parameters}
use Rattle.mpeg.specs.Meaning.{Number, none, is, given_in, or_zero}
use Rattle.mpeg.specs.Read.{read_of}
use Rattle.map_aspect.specs.Aspect.{aspect_of}
use Rattle.map_aspect.specs.declared.Aspect.{Aspect}
use Rattle.map_aspect.specs.declared.Aspect.TheVariants.{FourByThree, SixteenByNine, Unknown}

-- the paper's number of each case; unknown is none
unfoldable pub number_of : Aspect → Number
number_of FourByThree = is 0
number_of SixteenByNine = is 1
number_of Unknown = none

-- MPEG video, by 02's list of types (§12)
abbrev pub Mpeg : ℕ → Type 0
Mpeg media_type = (media_type ≡ 11) ⊎ ((media_type ≡ 12) ⊎ ((media_type ≡ 20) ⊎ ((media_type ≡ 22) ⊎ (media_type ≡ 23))))

-- what the aspect's bit is worth in byte 0 of a 4D: bit 4 of types 13 and 14 (Table 8), bit 0 of types 15 and 16 (Table 9); no other type has one
abbrev pub Worth : ℕ → ℕ → Type 0
Worth media_type w = (((media_type ≡ 13) ⊎ (media_type ≡ 14)) × (w ≡ 16)) ⊎ (((media_type ≡ 15) ⊎ (media_type ≡ 16)) × (w ≡ 1))

-- the validity reads 1: of byte 3 the highest bit is clear and the next is set
abbrev pub Valid : List ℕ → Type 0
Valid aux = (0x40 ≤ get_or aux 3 0) × (get_or aux 3 0 ≤ 0x7F)

-- of a type, the bytes of a 4D and those of a 4F: by numbers alone, and by the auxiliary reader
pub record AspectSays (media_type : ℕ) (aux text : List ℕ) : Type 0 where
  -- DV: the bit where the 4D is valid, else unknown
  pub valid : (w : ℕ) → Worth media_type w → Valid aux → number_of (aspect_of media_type aux text) ≡ is (get_or aux 0 0 / w % 2)
  pub invalid : (w : ℕ) → Worth media_type w → get_or aux 3 0 < 256 → (Valid aux → ⊥) → aspect_of media_type aux text ≡ Unknown
  -- MPEG video: `ar` where the auxiliary reader answers, which is what the text's line gives, or 0; it is 0 or 1. Unknown where that reader refuses, with whatever number
  pub answers : Mpeg media_type → (x : Parameters) → read_of text ≡ Ok x
      → (n : ℕ) × (meaning_of x.ar ≡ number n) × (n ≡ or_zero (given_in text 13)) × (n < 2) × (number_of (aspect_of media_type aux text) ≡ is n)
  pub refuses : Mpeg media_type → (r : Refusal) → read_of text ≡ Err r → aspect_of media_type aux text ≡ Unknown
  -- every other type
  pub other : (Mpeg media_type → ⊥) → ((w : ℕ) → Worth media_type w → ⊥) → aspect_of media_type aux text ≡ Unknown

-- MPEG video without the bytes of a 4F is unknown, every other type without those of a 4D, and each without either
pub record NoneShown : Type 0 where
  pub no_text : (media_type : ℕ) (aux : List ℕ) → Mpeg media_type → aspect_of media_type aux [] ≡ Unknown
  pub no_bits : (media_type : ℕ) (text : List ℕ) → (Mpeg media_type → ⊥) → aspect_of media_type [] text ≡ Unknown
  pub neither : (media_type : ℕ) → aspect_of media_type [] [] ≡ Unknown
