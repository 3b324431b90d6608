-- A part of some bytes: from one place up to another.
use Rattle.std.specs.Prelude.{ℕ, ◌-◌, List, take, drop}

abbrev pub part : ℕ → ℕ → List ℕ → List ℕ
part from to s = take (to - from) (drop from s)
