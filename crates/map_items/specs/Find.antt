-- Items found by tag: the bytes of the first, and the place of those bytes.
use Rattle.std.specs.Prelude.{ℕ, ◌+◌, List, [], ◌∷◌, length, eqb, Option, Some, None}
use Rattle.plate.specs.Choice.{pick}
use Rattle.map_items.specs.Items.{Item}
use Rattle.map_items.specs.declared.Part.{Part}

pub data Found : Type 0 where
  missing : Found
  found : ℕ → List ℕ → Found

-- the first item of a tag, in items from place p on: where its value begins, and the value
unfoldable pub find : ℕ → ℕ → List Item → Found
find tag p [] = missing
find tag p (i ∷ is) = pick (eqb i.tag tag) (found (p + 2) i.value) (find tag (p + 2 + length i.value) is)

-- place and stored length
abbrev pub part_of : Found → Option Part
part_of missing = None
part_of (found p v) = Some (record { at = p; len = length v })

-- the bytes; none where it is missing
abbrev pub bytes_of : Found → List ℕ
bytes_of missing = []
bytes_of (found p v) = v
