-- The bench maps of 01 as bytes: M, M with an unknown item and M with a reserved rate, and what such maps say.
use Prim.Native.Nat.{ℕ}
use mathlib.Core.List.{List, [], ◌∷◌, ◌++◌}
use Rattle.std.specs.Prelude.{Option, None}
use Rattle.map.specs.declared.MapSays.{MapSays}

-- a header of a type and a length under 256
abbrev pub headed : ℕ → ℕ → List ℕ
headed type_byte len = 0 ∷ 0 ∷ 0 ∷ 0 ∷ 1 ∷ type_byte ∷ 0 ∷ 0 ∷ 0 ∷ len ∷ 0 ∷ 0 ∷ 0 ∷ 0 ∷ 0xE1 ∷ 0xE2 ∷ []

-- the bench map of 01: its payload's front, with the track section's length and the track's, and its rate item
abbrev pub up_to_rate : ℕ → ℕ → List ℕ
up_to_rate section track =
    0xE0 ∷ 0xFF ∷ 0x00 ∷ 0x06 ∷ 0x41 ∷ 0x04 ∷ 0x00 ∷ 0x00 ∷ 0x00 ∷ 0x00 ∷ 0x00 ∷ section ∷ 0x8A ∷ 0xC1 ∷ 0x00 ∷ track ∷ 0x4C ∷ 0x03 ∷ 0x41 ∷ 0x31 ∷ 0x00 ∷ []

abbrev pub rate_item : ℕ → ℕ → List ℕ
rate_item high low = 0x50 ∷ 0x04 ∷ high ∷ high ∷ high ∷ low ∷ []

abbrev pub M : List ℕ
M = headed 0xBC 0x2C ++ up_to_rate 0x0F 0x0B ++ rate_item 0xFF 0xFE ++ (0 ∷ [])

-- with `7E 01 55` after the rate
abbrev pub newer : List ℕ
newer = headed 0xBC 0x30 ++ up_to_rate 0x12 0x0E ++ rate_item 0xFF 0xFE ++ (0x7E ∷ 0x01 ∷ 0x55 ∷ 0 ∷ 0 ∷ [])

-- with rate 9
abbrev pub reserved : List ℕ
reserved = headed 0xBC 0x2C ++ up_to_rate 0x0F 0x0B ++ rate_item 0x00 0x09 ++ (0 ∷ [])

-- what a map says that lists so many tracks and has no material item but, perhaps, a first field
abbrev pub saying : ℕ → Option ℕ → MapSays
saying n field =
    record {
      count = n;
      material =
          record {
            name = None;
            first = field;
            last = None;
            mark_in = None;
            mark_out = None;
            size = None;
          };
    }
