-- The readings of odd fields, computed by the checker.
use mathlib.Core.Path.{refl}
use Rattle.number.specs.Number.{be, le, le_bytes}
use Rattle.media_type.specs.MediaType.{known_type, mpeg_type, wrong_form}
use Rattle.text.specs.Text.{text_ok}
use Rattle.packet.specs.Packet.{header_at, sized_at, packet_at}
use Rattle.map_items.specs.Items as items
use Rattle.map_items.specs.Judge as judge
use Rattle.map_items.specs.Find as find
use Rattle.field.specs.Field as field
use Rattle.map_answer.specs.Answer as answer
use Rattle.map_tracks.specs.Tracks as tracks
use Rattle.map.specs.Map as map
use Rattle.locator.specs.Locator as locator
use Rattle.media.specs.Media as media
use Rattle.piece.specs.Piece as piece
use Rattle.order.specs.Order as order
use Rattle.stream.specs.Stream as stream
use Rattle.book.specs.Book as book
use Rattle.book_builder.specs.BookBuilder as builder
use Rattle.paper_readings.specs.OddFields.{OddReadings}

pub odd_readings : OddReadings
unfolding header_at sized_at packet_at be known_type mpeg_type wrong_form text_ok items.split_items items.section_of items.items_size judge.form_of judge.is_known judge.fault_of judge.counts_as judge.has judge.judge_items judge.verdict_of find.find answer.is_null answer.value_of answer.allowed answer.code_of answer.is_progressive tracks.split_tracks tracks.tracks_of tracks.track_over tracks.track_verdict tracks.end_verdict tracks.judge_tracks tracks.tracks_verdict tracks.is_listed tracks.byte_of tracks.types_of map.after_material map.layout_of map.both_verdict map.sections_verdict map.map_verdict map.types_in locator.table_of media.preamble_of piece.content_of piece.opens piece.piece_at order.misplaced order.overdue order.unmapped order.either_type order.falls order.progress_after order.ending order.step_of stream.packets_from stream.packets stream.ran_out stream.judge_packets stream.check_of field.type_with field.has_mark field.type_alone field.is_even field.carries_two field.is_field stream.carries_as stream.first_of stream.seek_of le_bytes builder.recorded builder.entries_here builder.entries_of builder.entries_in builder.build_answer builder.built_in book.record_bytes book.book_bytes le book.record_at book.book_from book.book_of book.sound_type book.is_of book.rises_at book.stands book.judge_book book.first_in book.lookup_of
odd_readings =
    record {
      checked = refl;
      even = refl;
      above = refl;
      next = refl;
      last = refl;
      below = refl;
      over = refl;
      other_track = refl;
      built = refl;
      written = refl;
      looked_above = refl;
      looked_last = refl;
      looked_over = refl;
      interlaced = refl;
      interlaced_own = refl;
      interlaced_checked = refl;
      interlaced_written = refl;
      not_applicable = refl;
      not_available_lem = refl;
      reserved = refl;
      no_item = refl;
      null_name_lem = refl;
      sound = refl;
      time_code = refl;
      turned_before = refl;
      turned_two = refl;
      turned_back = refl;
      turned_out = refl;
      turned_own = refl;
      turned_written = refl;
      mixed_video = refl;
      mixed_sound = refl;
      mixed_own = refl;
      odd_before = refl;
      odd_behind = refl;
      odd_alone = refl;
      odd_below = refl;
      odd_written = refl;
      zero = refl;
      one_above = refl;
      last_even = refl;
      last_above = refl;
      no_more = refl;
      last_odd = refl;
      past_odd = refl;
      not_round = refl;
      reserved_checked = refl;
      reserved_media = refl;
      reserved_above = refl;
      reserved_built = refl;
      marked_odd = refl;
      marked_19 = refl;
      marked_0 = refl;
      twice = refl;
      all_marks = refl;
      marked_last = refl;
      marked_1 = refl;
      foreign_own = refl;
      foreign_above = refl;
      unmarked_own = refl;
      foreign_first = refl;
      foreign_second = refl;
      foreign_last = refl;
      foreign_zero = refl;
      unmarked_above = refl;
      foreign_below = refl;
      foreign_over = refl;
      foreign_round = refl;
      table_one = refl;
      table_two = refl;
      table_none = refl;
    }
