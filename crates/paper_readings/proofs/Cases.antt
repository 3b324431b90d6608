-- The cases of order give the refusals that they should, computed by the checker.
use mathlib.Core.Path.{refl}
use Rattle.number.specs.Number.{be}
use Rattle.media_type.specs.MediaType.{known_type, mpeg_type, wrong_form}
use Rattle.text.specs.Text.{text_ok}
use Rattle.packet.specs.Packet.{header_at, sized_at, packet_at}
use Rattle.map_items.specs.Items as items
use Rattle.map_items.specs.Judge as judge
use Rattle.map_items.specs.Find as find
use Rattle.map_answer.specs.Answer as answer
use Rattle.map_tracks.specs.Tracks as tracks
use Rattle.map.specs.Map as map
use Rattle.mpeg_scan.specs.Scan as scan
use Rattle.mpeg_decimal.specs.Decimal as decimal
use Rattle.mpeg_parameter.specs.Table as row
use Rattle.mpeg_parameter.specs.Parameters as parameter
use Rattle.mpeg.specs.Lines as lines
use Rattle.mpeg.specs.Read as mpeg
use Rattle.paper_readings.specs.Cases.{cases}
use Rattle.paper_readings.specs.Table.{Agree}

pub cases_agree : Agree cases
unfolding cases header_at sized_at packet_at be known_type mpeg_type wrong_form text_ok items.split_items items.section_of items.items_size judge.form_of judge.is_known judge.fault_of judge.counts_as judge.has judge.judge_items judge.verdict_of find.find answer.is_null answer.value_of answer.material_of tracks.split_tracks tracks.tracks_of tracks.track_over tracks.track_verdict tracks.end_verdict tracks.judge_tracks tracks.tracks_verdict tracks.is_listed tracks.listed map.after_material map.layout_of map.both_verdict map.sections_verdict map.map_verdict map.material_says map.listed_in map.answer_of map.map_at scan.run scan.run_end scan.alnum scan.other decimal.digits decimal.numeral_of decimal.whole_of row.table row.row_at row.other_row row.row_for row.row_of parameter.amount_of parameter.given parameter.wanting parameter.lacking lines.label_at lines.lines_from lines.lines_at mpeg.taken mpeg.judge_lines mpeg.parameters_answer mpeg.read_of
cases_agree = (refl, (refl, (refl, (refl, (refl, (refl, (refl, (refl, (refl, (refl, (refl, (refl, (refl, (refl, (refl, (refl, (refl, (refl, (refl, (refl, (refl, (refl, (refl, (refl, (refl, (refl, (refl, (refl, tt))))))))))))))))))))))))))))
