-- Whether look-up in a book and seek in its stream agree (01, "Stream, seek, book"): wherever the book is built they do.
use Rattle.std.specs.Prelude.{ℕ, Result, Ok, Err}
use Rattle.agreement.specs.declared.Agreement.{Agreement}
use Rattle.agreement.specs.declared.Agreement.TheVariants.{One}
use Rattle.plate.specs.declared.Refusal.{Refusal}

-- one answer, of any track and field, wherever the build is not refused; never two
abbrev pub agreement_of : Result ℕ Refusal → Result Agreement Refusal
agreement_of (Err r) = Err r
agreement_of (Ok n) = Ok One
