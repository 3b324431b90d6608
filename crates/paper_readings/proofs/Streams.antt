-- What is said of the stream, computed by the checker.
use Prim.Native.Nat.{ℕ}
use mathlib.Core.Path.{◌≡◌, refl}
use mathlib.Core.List.{List, ◌∷◌, ◌++◌}
use lib.ListN.{replicate}
use Rattle.std.specs.Prelude.{Ok, Err}
use Rattle.number.specs.Number.{be, le, le_bytes}
use Rattle.media_type.specs.MediaType.{known_type, mpeg_type, wrong_form}
use Rattle.text.specs.Text.{text_ok}
use Rattle.packet.specs.Packet.{header_at, sized_at, packet_at}
use Rattle.plate.specs.Plate.{refusal}
use Rattle.map_items.specs.Items as items
use Rattle.map_items.specs.Judge as judge
use Rattle.map_items.specs.Find as find
use Rattle.field.specs.Field as field
use Rattle.map_answer.specs.Answer as answer
use Rattle.map_tracks.specs.Tracks as tracks
use Rattle.map.specs.Map as map
use Rattle.locator.specs.Locator as locator
use Rattle.media.specs.Media as media
use Rattle.piece.specs.Piece as piece
use Rattle.order.specs.Order as order
use Rattle.stream.specs.Stream as stream
use Rattle.book.specs.Book as book
use Rattle.book_builder.specs.BookBuilder as builder
use Rattle.map.proofs.Samples.{headed, M}
use Rattle.paper_readings.specs.Streams.{room, Computed}
use Rattle.plate.specs.declared.Fault.TheVariants as fault

pub computed : Computed
unfolding header_at sized_at packet_at be known_type mpeg_type wrong_form text_ok items.split_items items.section_of items.items_size judge.form_of judge.is_known judge.fault_of judge.counts_as judge.has judge.judge_items judge.verdict_of find.find answer.is_null answer.value_of answer.allowed answer.code_of answer.is_progressive tracks.split_tracks tracks.tracks_of tracks.track_over tracks.track_verdict tracks.end_verdict tracks.judge_tracks tracks.tracks_verdict tracks.is_listed tracks.byte_of tracks.types_of map.after_material map.layout_of map.both_verdict map.sections_verdict map.map_verdict map.types_in locator.table_of media.preamble_of piece.content_of piece.opens piece.piece_at order.misplaced order.overdue order.unmapped order.either_type order.falls order.progress_after order.ending order.step_of stream.packets_from stream.packets stream.ran_out stream.judge_packets stream.check_of field.type_with field.has_mark field.type_alone field.is_even field.carries_two field.is_field stream.carries_as stream.first_of stream.seek_of le_bytes builder.recorded builder.entries_here builder.entries_of builder.entries_in builder.build_answer builder.built_in book.record_bytes book.book_bytes le book.record_at book.book_from book.book_of book.sound_type book.is_of book.rises_at book.stands book.judge_book book.first_in book.lookup_of
computed =
    record {
      checked = refl;
      mute_checked = refl;
      no_umf = refl;
      torn_checked = refl;
      torn_sought = refl;
      torn_built = refl;
      one_lacks = refl;
      none_lacks = refl;
      map_torn = refl;
      map_short = refl;
      torn_first = refl;
      no_map_first = refl;
      wrong_checked = refl;
      wrong_sought = refl;
      wrong_built = refl;
      before_wrong = refl;
      wrong_first = refl;
      wrong_due = refl;
      right_due = refl;
      field_0 = refl;
      field_1 = refl;
      no_field = refl;
      no_track = refl;
      not_checked = refl;
      two = refl;
      none = refl;
      no_room = refl;
      not_built = refl;
      written = refl;
      mute_written = refl;
      untouched = refl;
      record_0 = refl;
      record_1 = refl;
      no_record = refl;
      cut = refl;
    }

-- a list that no slice lends: the byte 256 makes the field number 2 ^ 32, which a record cuts to 0
abbrev pub unlent : List ℕ
unlent = M ++ headed 0xFD 16 ++ (headed 0xBF 32 ++ (10 ∷ 1 ∷ 256 ∷ 0 ∷ 0 ∷ 0 ∷ replicate 10 0)) ++ headed 0xFB 16

-- why `agree` of book_builder asks that the lent stream holds bytes: look-up and seek differ here
pub bytes_needed : (builder.build_answer (room 16) unlent ≡ Ok 1) × (book.lookup_of (builder.built_in (room 16) unlent) 1 4294967296 ≡ Err (refusal fault.NotThere 0)) × (stream.seek_of unlent 1 4294967296 ≡ Ok 60)
unfolding header_at sized_at packet_at be known_type mpeg_type wrong_form text_ok items.split_items items.section_of items.items_size judge.form_of judge.is_known judge.fault_of judge.counts_as judge.has judge.judge_items judge.verdict_of find.find answer.is_null answer.value_of answer.allowed answer.code_of answer.is_progressive tracks.split_tracks tracks.tracks_of tracks.track_over tracks.track_verdict tracks.end_verdict tracks.judge_tracks tracks.tracks_verdict tracks.is_listed tracks.byte_of tracks.types_of map.after_material map.layout_of map.both_verdict map.sections_verdict map.map_verdict map.types_in locator.table_of media.preamble_of piece.content_of piece.opens piece.piece_at order.misplaced order.overdue order.unmapped order.either_type order.falls order.progress_after order.ending order.step_of stream.packets_from stream.packets stream.ran_out stream.judge_packets stream.check_of field.type_with field.has_mark field.type_alone field.is_even field.carries_two field.is_field stream.carries_as stream.first_of stream.seek_of le_bytes builder.recorded builder.entries_here builder.entries_of builder.entries_in builder.build_answer builder.built_in book.record_bytes book.book_bytes le book.record_at book.book_from book.book_of book.sound_type book.is_of book.rises_at book.stands book.judge_book book.first_in book.lookup_of
bytes_needed = (refl, refl, refl)
