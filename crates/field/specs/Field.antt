-- Field numbers (RDD 14, 4.8; 02, §2): which fields a packet carries by its number, and the mark, 64, beside a media type. In a table by ID it marks a track with fields per frame 1, in a book a packet that carries two fields; known types are under 64 (specs/Marks.antt).
use Rattle.std.specs.Prelude.{ℕ, ◌+◌, ◌%◌, Bool, true, false, eqb, leb}
use Rattle.plate.specs.Choice.{pick}

-- a marked type: a type, with the mark or without
unfoldable pub type_with : Bool → ℕ → ℕ
type_with marked type = pick marked (type + 64) type

-- whether a marked type under 128 has the mark, and its type
unfoldable pub has_mark : ℕ → Bool
has_mark byte = leb 64 byte

unfoldable pub type_alone : ℕ → ℕ
type_alone byte = byte % 64

unfoldable pub is_even : ℕ → Bool
is_even number = eqb (number % 2) 0

-- frames of progressive formats have even numbers: on a marked track a packet with an even number carries two fields
unfoldable pub carries_two : ℕ → ℕ → Bool
carries_two byte number = pick (has_mark byte) (is_even number) false

-- the field that a packet's number is, and where it carries two, the one above
unfoldable pub is_field : Bool → ℕ → ℕ → Bool
is_field two number field = pick (eqb number field) true (pick two (eqb (number + 1) field) false)
