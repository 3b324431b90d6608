-- What items say (RDD 14, Tables 4 and 6; 01, "Map"): numbers, codes, the material answer and the track record.
use Rattle.std.specs.Prelude.{ℕ, ◌-◌, ◌≡◌, Bool, false, ◌⊎◌, List, [], ◌∷◌, length, eqb, ltb, ℤ, pos, negsuc, Option, Some, None}
use Rattle.plate.specs.Choice.{pick, within}
use Rattle.number.specs.Number.{be}
use Rattle.map_items.specs.Items.{Item}
use Rattle.map_items.specs.Find.{Found, missing, found, find, part_of, bytes_of}
use Rattle.map_items.specs.Judge.{has}
use Rattle.map_aspect.specs.Aspect.{aspect_of}
use Rattle.map_answer.specs.declared.Code.{Code}
use Rattle.map_answer.specs.declared.Code.TheVariants as code
use Rattle.map_answer.specs.declared.Material.{Material}
use Rattle.map_answer.specs.declared.Track.{Track}
use Rattle.map_items.specs.declared.Part.{Part}

-- a number, most significant byte first; in an accepted section it has its four bytes
unfoldable pub value_of : Found → Option ℕ
value_of missing = None
value_of (found p v) = pick (eqb (length v) 4) (Some (be v 0 4)) None

-- the values of Table 6: rate (50) 1 to 8; lines (51) 1, 2, 4, 6; fields (52) 1, 2; another tag has none
unfoldable pub allowed : ℕ → ℕ → Bool
allowed tag n =
    pick (eqb tag 0x50) (within 1 8 n)
    (pick (eqb tag 0x51) (has n (1 ∷ 2 ∷ 4 ∷ 6 ∷ []))
    (pick (eqb tag 0x52) (has n (1 ∷ 2 ∷ [])) false))

-- INT32: all ones is −1, not applicable; one less is −2, not available; any value without a meaning counts as absent
unfoldable pub code_of : ℕ → Option ℕ → Code
code_of tag None = code.Absent
code_of tag (Some n) =
    pick (eqb n 0xFFFFFFFF) code.NotApplicable
    (pick (eqb n 0xFFFFFFFE) code.NotAvailable
    (pick (allowed tag n) (code.Is n) code.Absent))

-- fields per frame 1: the frames of the track are coded whole (Table 6: progressive; 4.8; 02, §2)
unfoldable pub is_progressive : Code → Bool
is_progressive (code.Is n) = eqb n 1
is_progressive code.NotApplicable = false
is_progressive code.NotAvailable = false
is_progressive code.Absent = false

-- of all numbers in item 52 that is so of 1 alone
abbrev pub OneAlone : Type 0
OneAlone = (n : ℕ) → is_progressive (code_of 0x52 (Some n)) ≡ eqb n 1

-- the number of the paper that each case of a code is; an absent code is none
pub data Meaning : Type 0 where
  nothing : Meaning
  number : ℤ → Meaning

unfoldable pub meaning_of : Code → Meaning
meaning_of (code.Is n) = number (pos n)
meaning_of code.NotApplicable = number (negsuc 0)
meaning_of code.NotAvailable = number (negsuc 1)
meaning_of code.Absent = nothing

-- four bytes as INT32; `negsuc n` is −(n + 1)
unfoldable pub signed : ℕ → ℤ
signed n = pick (ltb n 0x80000000) (pos n) (negsuc (0xFFFFFFFF - n))

-- 01, "Codes", as it has them, by signed numbers: rate (50) 1 to 8; lines (51) 1, 2, 4, 6; fields (52) 1, 2; in all three −1 and −2
unfoldable pub codes_of : ℕ → List ℤ
codes_of tag =
    pick (eqb tag 0x50) (pos 1 ∷ pos 2 ∷ pos 3 ∷ pos 4 ∷ pos 5 ∷ pos 6 ∷ pos 7 ∷ pos 8 ∷ negsuc 0 ∷ negsuc 1 ∷ [])
    (pick (eqb tag 0x51) (pos 1 ∷ pos 2 ∷ pos 4 ∷ pos 6 ∷ negsuc 0 ∷ negsuc 1 ∷ [])
    (pick (eqb tag 0x52) (pos 1 ∷ pos 2 ∷ negsuc 0 ∷ negsuc 1 ∷ []) []))

unfoldable pub In : ℤ → List ℤ → Type 0
In x [] = ⊥
In x (y ∷ ys) = (x ≡ y) ⊎ In x ys

-- the code of an item with the number n: the signed number that n is where 01 lists it, and absent just where it does not
pub record CodeSays (tag n : ℕ) : Type 0 where
  pub listed : In (signed n) (codes_of tag) → meaning_of (code_of tag (Some n)) ≡ number (signed n)
  pub other : (In (signed n) (codes_of tag) → ⊥) → meaning_of (code_of tag (Some n)) ≡ nothing
  pub absent : meaning_of (code_of tag (Some n)) ≡ nothing → In (signed n) (codes_of tag) → ⊥

-- the null name: in an accepted section a text of one byte is a lone 00
unfoldable pub is_null : Option Part → Bool
is_null (Some p) = eqb p.len 1
is_null None = false

-- Table 4: 40 name, 41 first field, 42 last field, 43 mark in, 44 mark out, 45 size; the items begin at place p
unfoldable pub material_of : ℕ → List Item → Material
material_of p is =
    record {
      name = part_of (find 0x40 p is);
      first = value_of (find 0x41 p is);
      last = value_of (find 0x42 p is);
      mark_in = value_of (find 0x43 p is);
      mark_out = value_of (find 0x44 p is);
      size = value_of (find 0x45 p is);
    }

-- the bytes of an item that a null name hides; none where it is hidden or not there
abbrev pub shown_bytes : ℕ → ℕ → List Item → List ℕ
shown_bytes tag p is = pick (is_null (part_of (find 0x4C p is))) [] (bytes_of (find tag p is))

-- Table 6: 4C name, 4D and 4F auxiliary information, 4E version, 50 rate, 51 lines, 52 fields; a null name hides 4D, 4E and 4F. The aspect (02, §11) is by the type and by what is shown of 4D and 4F
unfoldable pub track_of : ℕ → ℕ → ℕ → List Item → Track
track_of type_byte id p is =
    record {
      id = id - 0xC0;
      media_type = type_byte - 0x80;
      rate = code_of 0x50 (value_of (find 0x50 p is));
      lines = code_of 0x51 (value_of (find 0x51 p is));
      fields = code_of 0x52 (value_of (find 0x52 p is));
      version = pick (is_null (part_of (find 0x4C p is))) None (value_of (find 0x4E p is));
      name = part_of (find 0x4C p is);
      aux = pick (is_null (part_of (find 0x4C p is))) None (part_of (find 0x4D p is));
      mpeg = pick (is_null (part_of (find 0x4C p is))) None (part_of (find 0x4F p is));
      aspect = aspect_of (type_byte - 0x80) (shown_bytes 0x4D p is) (shown_bytes 0x4F p is);
    }
