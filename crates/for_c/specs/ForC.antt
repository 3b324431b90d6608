-- What C sees of an answer that is one number (01, "The control program is in C"; 02, §4): number 0, place 0, lacking 0 and the value; or a number of the plate, its place, the bytes lacking with 5, else 0, and 0 for the value.
use Rattle.std.specs.Prelude.{ℕ, Result, Ok, Err}
use Rattle.plate.specs.Plate.{number}
use Rattle.plate.specs.declared.Refusal.{Refusal}
use Rattle.for_c.specs.declared.GxfValue.{GxfValue}

abbrev pub answered_for_c : ℕ → GxfValue
answered_for_c v = record { number = 0; place = 0; lacking = 0; value = v }

abbrev pub refused_for_c : Refusal → GxfValue
refused_for_c r = record { number = number r; place = r.place; lacking = r.lacking; value = 0 }

-- of either
abbrev pub value_for_c : Result ℕ Refusal → GxfValue
value_for_c (Ok v) = answered_for_c v
value_for_c (Err r) = refused_for_c r
