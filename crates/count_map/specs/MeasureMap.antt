-- What C sees of the answer whose instructions are counted (docs/DECISIONS.md, S24): count and material, so that no compiler can leave out a part.
use Rattle.std.specs.Prelude.{ℕ, Option, Some, None, Result, Ok, Err}
use Rattle.plate.specs.Plate.{number}
use Rattle.plate.specs.declared.Refusal.{Refusal}
use Rattle.map.specs.declared.MapSays.{MapSays}
use Rattle.count_map.specs.declared.GxfMap.{GxfMap}
use Rattle.map_items.specs.declared.Part.{Part}

-- a number of a map is under 2^32; all ones stands for none
abbrev pub or_none : Option ℕ → ℕ
or_none (Some n) = n
or_none None = 0xFFFFFFFFFFFFFFFF

-- of no part both are 0; a text of an accepted map has one byte at least
abbrev pub place_of : Option Part → ℕ
place_of (Some p) = p.at
place_of None = 0

abbrev pub length_of : Option Part → ℕ
length_of (Some p) = p.len
length_of None = 0

abbrev pub accepted_for_c : MapSays → GxfMap
accepted_for_c m =
    record {
      number = 0;
      place = 0;
      lacking = 0;
      count = m.count;
      name = place_of m.material.name;
      name_length = length_of m.material.name;
      first = or_none m.material.first;
      last = or_none m.material.last;
      mark_in = or_none m.material.mark_in;
      mark_out = or_none m.material.mark_out;
      size = or_none m.material.size;
    }

abbrev pub refused_for_c : Refusal → GxfMap
refused_for_c r =
    record {
      number = number r;
      place = r.place;
      lacking = r.lacking;
      count = 0;
      name = 0;
      name_length = 0;
      first = 0;
      last = 0;
      mark_in = 0;
      mark_out = 0;
      size = 0;
    }

unfoldable pub map_for_c : Result MapSays Refusal → GxfMap
map_for_c (Ok m) = accepted_for_c m
map_for_c (Err r) = refused_for_c r
