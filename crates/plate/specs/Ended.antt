-- A list that ends somehow: what bytes are taken apart into, and how the taking apart ended.
use Rattle.std.specs.Prelude.{List, [], ◌∷◌}

pub record Ended (A E : Type 0) : Type 0 where
  pub list : List A
  pub end : E

abbrev pub none : {A E : Type 0} → E → Ended A E
none e = record { list = []; end = e }

-- one more in front
abbrev pub in_front : {A E : Type 0} → A → Ended A E → Ended A E
in_front x l = record { list = x ∷ l.list; end = l.end }
