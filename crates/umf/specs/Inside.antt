-- What serves the code alone: a walk of a section, in numbers.
use Rattle.std.specs.Prelude.{length}
use Rattle.umf.specs.Split.{Parts, size_of}
use Rattle.umf.specs.declared.Walked.{Walked}

-- how many there are, the bytes that they take, and how the walk ended
abbrev pub walked_of : Parts → Walked
walked_of w = record { number = length w.list; bytes = size_of w.list; whole = w.end }
