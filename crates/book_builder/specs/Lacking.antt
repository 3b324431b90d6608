-- What refuses streams, beside check and seek (02, §4): the builder, with a lent buffer.
use Rattle.std.specs.Prelude.{ℕ, ◌≡◌, List, Err}
use Rattle.plate.specs.declared.Refusal.{Refusal}
use Rattle.book_builder.specs.BookBuilder.{build_answer}

abbrev pub BuildRefuses : List ℕ → List ℕ → Refusal → Type 0
BuildRefuses l s r = build_answer l s ≡ Err r
