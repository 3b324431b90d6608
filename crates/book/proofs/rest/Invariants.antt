use mathlib.Core.Path.{◌≡◌}
use Rattle.std.specs.Prelude.{Ok}
use Rattle.book.specs.Book.{if_good}
use Rattle.book.specs.Inside.{verdict_from}
use Rattle.book.proofs.rest.Given as goal

abbrev pub invariant-loop-n : goal.invariant-loop-n
invariant-loop-n l = if_good (verdict_from l.book l.passed l.before) (Ok l.answer) ≡ if_good (verdict_from l.book l.n l.last) (Ok l.answer)
