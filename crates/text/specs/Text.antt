-- Text (01, "Map"; RDD 14, Table 1, STRING): one byte at least, 00 last and nowhere else, none over 7F.
use Rattle.std.specs.Prelude.{ℕ, Bool, false, List, [], ◌∷◌, ltb, eqb}
use Rattle.plate.specs.Choice.{pick}

unfoldable pub text_ok : List ℕ → Bool
text_ok [] = false
text_ok (x ∷ []) = eqb x 0
text_ok (x ∷ y ∷ s) = pick (eqb x 0) false (pick (ltb x 0x80) (text_ok (y ∷ s)) false)
