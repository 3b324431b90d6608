use mathlib.Core.Path.{◌≡◌}
use Rattle.book.specs.Book.{lookup_of}
use Rattle.book.proofs.Laws.{answer_from}
use Rattle.book.proofs.lookup.Given as goal

abbrev pub invariant-loop-n : goal.invariant-loop-n
invariant-loop-n l = lookup_of l.book l.track l.field ≡ answer_from l.book l.track l.field l.n l.last
