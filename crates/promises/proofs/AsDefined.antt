-- What the functions give, from what any outcome of a call is, and that there is one.
use Rattle.paper_readings.proofs.Given.{check_is, check_gives, seek_is, seek_gives, lookup_is, lookup_gives, table_is, table_gives, position_is, position_gives, preamble_is, preamble_gives, place_is, place_gives, place_of_two_is, place_of_two_gives, parameters_is, parameters_gives}
use Rattle.paper_readings.proofs.Calls.{header_is, header_gives, of_type_is, of_type_gives, walk_is, walk_gives, map_is, map_gives, track_is, track_gives, handed_is, handed_of_two_is, built_is, built_gives, map_written_is, map_written_gives, locator_written_is, locator_written_gives}
use Rattle.promises.specs.AsDefined.{AsDefined}

pub as_defined : AsDefined
as_defined =
    record {
      header = header_is;
      header_given = header_gives;
      of_type = of_type_is;
      of_type_given = of_type_gives;
      walk = walk_is;
      walk_given = walk_gives;
      map = map_is;
      map_given_lem = map_gives;
      track = track_is;
      track_given_lem = track_gives;
      place = place_is;
      place_given = place_gives;
      place_of_two_lem = place_of_two_is;
      place_of_two_given = place_of_two_gives;
      table = table_is;
      table_given = table_gives;
      position = position_is;
      position_given = position_gives;
      preamble = preamble_is;
      preamble_given = preamble_gives;
      parameters = parameters_is;
      parameters_given = parameters_gives;
      check = check_is;
      check_given = check_gives;
      seek = seek_is;
      seek_given = seek_gives;
      lookup = lookup_is;
      lookup_given = lookup_gives;
      name = handed_is;
      name_of_two = handed_of_two_is;
      build = built_is;
      build_given = built_gives;
      write_map = map_written_is;
      write_map_given = map_written_gives;
      write_locator = locator_written_is;
      write_locator_given = locator_written_gives;
    }
