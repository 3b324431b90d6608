-- One outcome, and what a refused call leaves, from what any outcome of a call is.
use mathlib.Core.Path.{◌≡◌, sym, ◌∙◌}
use Rattle.walker.proofs.Once.{step_once}
use Rattle.walker.proofs.Laws.{step_refused}
use Rattle.map_records.proofs.Once.{fill_once}
use Rattle.map_records.proofs.Kept as records
use Rattle.book_builder.proofs.Same as book
use Rattle.map_writer.specs.Write.{map_written_in}
use Rattle.locator_writer.specs.Write.{locator_written_in}
use Rattle.paper_readings.proofs.Given.{check_is, seek_is, lookup_is, table_is, position_is, preamble_is, place_is, name_is, place_of_two_is, name_of_two_is, parameters_is}
use Rattle.paper_readings.proofs.Calls.{header_is, of_type_is, walk_is, map_is, track_is, built_is, map_written_is, locator_written_is}
use Rattle.promises.specs.EveryInput.{EveryInput}

-- two things that are one definition's
both : {A : Type 0} {x y z : A} → x ≡ z → y ≡ z → x ≡ y
both p q = p ∙ sym q

pub every_input : EveryInput
unfolding map_written_in locator_written_in
every_input =
    record {
      header = λ s at x y g h. both (header_is s at x g) (header_is s at y h);
      of_type = λ s at type x y g h. both (of_type_is s at type x g) (of_type_is s at type y h);
      step = λ w x y u v g h. step_once w x y u v g h;
      walk = λ s at n x y g h. both (walk_is s at n x g) (walk_is s at n y h);
      map = λ s at x y g h. both (map_is s at x g) (map_is s at y h);
      track = λ s at k x y g h. both (track_is s at k x g) (track_is s at k y h);
      fill = λ ys s at x y us vs g h. fill_once ys s at x y us vs g h;
      place = λ s id x y g h. both (place_is s id x g) (place_is s id y h);
      name = λ s id x y g h. both (name_is s id x g) (name_is s id y h);
      place_of_two_lem = λ m n id x y g h. both (place_of_two_is m n id x g) (place_of_two_is m n id y h);
      name_of_two = λ m n id x y g h. both (name_of_two_is m n id x g) (name_of_two_is m n id y h);
      table = λ s at x y g h. both (table_is s at x g) (table_is s at y h);
      position = λ s at d x y g h. both (position_is s at d x g) (position_is s at d y h);
      preamble = λ s at x y g h. both (preamble_is s at x g) (preamble_is s at y h);
      parameters = λ s x y g h. both (parameters_is s x g) (parameters_is s y h);
      check = λ s x y g h. both (check_is s x g) (check_is s y h);
      seek = λ s track field x y g h. both (seek_is s track field x g) (seek_is s track field y h);
      lookup = λ s track field x y g h. both (lookup_is s track field x g) (lookup_is s track field y h);
      build = λ l s x y o p g h. let e = built_is l s x o g in let f = built_is l s y p h in (both e.0 f.0, both e.1 f.1);
      write_map = λ out at text ms ts x y o p g h.
          let e = map_written_is out at text ms ts x o g in let f = map_written_is out at text ms ts y p h in (both e.0 f.0, both e.1 f.1);
      write_locator = λ out at step ns x y o p g h.
          let e = locator_written_is out at step ns x o g in let f = locator_written_is out at step ns y p h in (both e.0 f.0, both e.1 f.1);
      step_refused = step_refused;
      fill_refused = λ ys s at r zs f. records.refused_stays ys s at r zs f;
      build_refused = λ l s r o g. let e = built_is l s _ o g in e.1 ∙ book.refused_stays l s r (sym e.0);
      write_map_refused = λ out at text ms ts r o g. let e = map_written_is out at text ms ts _ o g in e.1 ∙ rw (← e.0);
      write_locator_refused = λ out at step ns r o g. let e = locator_written_is out at step ns _ o g in e.1 ∙ rw (← e.0);
    }
