-- Media types (RDD 14, Table 5; 01, "Map"): 3, 4, 7 to 18, 20 to 26; every other is reserved.
use Rattle.std.specs.Prelude.{ℕ, Bool, true, eqb}
use Rattle.plate.specs.Choice.{pick, within}

unfoldable pub known_type : ℕ → Bool
known_type t = pick (within 3 4 t) true (pick (within 7 18 t) true (within 20 26 t))

-- MPEG video: 11 and 12, MPEG-2 525 and 625; 20, MPEG-2 HD; 22 and 23, MPEG-1 525 and 625
unfoldable pub mpeg_type : ℕ → Bool
mpeg_type t = pick (within 11 12 t) true (pick (eqb t 20) true (within 22 23 t))

-- the auxiliary item that a listed track of a type may not have (clause 7.1.3; 02, §12): 4D for MPEG video, 4F for every other
unfoldable pub wrong_form : ℕ → ℕ
wrong_form t = pick (mpeg_type t) 0x4D 0x4F
