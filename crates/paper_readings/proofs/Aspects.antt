-- The readings of the aspect agree.
use mathlib.Core.Path.{refl}
use Rattle.number.specs.Number.{be, be_bytes}
use Rattle.media_type.specs.MediaType.{known_type, mpeg_type, wrong_form}
use Rattle.text.specs.Text.{text_ok}
use Rattle.packet.specs.Packet.{header_at, sized_at, packet_at}
use Rattle.mpeg_scan.specs.Scan as scan
use Rattle.mpeg_decimal.specs.Decimal as decimal
use Rattle.mpeg_parameter.specs.Table as rows
use Rattle.mpeg_parameter.specs.Parameters as parameters
use Rattle.mpeg.specs.Lines as lines
use Rattle.mpeg.specs.Read as read
use Rattle.map_aspect.specs.Aspect as aspect
use Rattle.map_aspect.specs.Meaning.{number_of}
use Rattle.map_items.specs.Items as items
use Rattle.map_items.specs.Judge as judge
use Rattle.map_items.specs.Find as find
use Rattle.map_answer.specs.Answer as answer
use Rattle.map_tracks.specs.Tracks as tracks
use Rattle.map.specs.Map as map
use Rattle.map.specs.Encode as encode
use Rattle.map.specs.Parts as said
use Rattle.map_records.specs.Fill as fill
use Rattle.map_newer.specs.Strike as strike
use Rattle.map_given.specs.Given as goal
use Rattle.map_given.specs.Faults as faults
use Rattle.map_writer.specs.Write as writer
use Rattle.paper_readings.specs.Table.{Agree}
use Rattle.paper_readings.specs.Aspects.{aspects}

pub aspects_agree : Agree aspects
unfolding aspects header_at sized_at packet_at be known_type mpeg_type wrong_form text_ok items.split_items items.section_of items.items_size judge.form_of judge.is_known judge.fault_of judge.counts_as judge.has judge.judge_items judge.verdict_of find.find answer.value_of answer.allowed answer.code_of answer.is_null answer.material_of answer.track_of aspect.aspect_of aspect.text_aspect read.read_of tracks.split_tracks tracks.tracks_of tracks.track_over tracks.track_verdict tracks.end_verdict tracks.judge_tracks tracks.tracks_verdict tracks.is_listed tracks.listed tracks.record_of tracks.kth_of map.after_material map.layout_of map.both_verdict map.sections_verdict map.map_verdict map.material_says map.listed_in map.answer_of map.map_at map.track_in map.track_at tracks.id_of aspect.aspect_for aspect.bit_at aspect.validity aspect.dv_aspect number_of read.judge_lines read.taken read.parameters_answer lines.lines_at lines.lines_from lines.label_at parameters.lacking parameters.parameters_of parameters.value_of_row parameters.number_of parameters.given parameters.wanting parameters.amount_of rows.table rows.row_at rows.other_row rows.row_for rows.row_of decimal.rate_of decimal.whole_of decimal.numeral_of decimal.fraction_of decimal.digits scan.run scan.run_end scan.alnum scan.other fill.lent_after fill.records_at fill.answer_for strike.strike strike.set_in strike.set_in_parts strike.set_at strike.set_in_track strike.struck strike.struck_track strike.kept strike.material_stays strike.track_stays strike.is_reserved said.listed_of said.parts_of said.opened encode.encode encode.packet_of encode.front encode.section_bytes encode.packet_length encode.padding encode.described items.items_bytes tracks.descriptions_bytes be_bytes writer.map_packet writer.parts_given writer.items_of writer.slot_value goal.slots goal.tracks_from faults.is_text faults.is_eight writer.map_written_answer faults.any_wrong faults.given_wrong faults.fault_of faults.slots_fault faults.slot_fault faults.fits faults.reads faults.is_code faults.code_fits faults.tracks_fault faults.own_fault faults.barred faults.null_name faults.given faults.ids_fault faults.id_fault
aspects_agree = (refl, (refl, (refl, (refl, (refl, (refl, (refl, (refl, (refl, (refl, (refl, (refl, (refl, (refl, (refl, (refl, (refl, (refl, (refl, (refl, (refl, (refl, (refl, (refl, (refl, (refl, (refl, (refl, (refl, (refl, (refl, (refl, (refl, (refl, (refl, (refl, (refl, (refl, (refl, (refl, (refl, (refl, (refl, (refl, (refl, (refl, (refl, (refl, (refl, (refl, (refl, (refl, (refl, (refl, (refl, (refl, (refl, (refl, (refl, (refl, (refl, (refl, (refl, (refl, (refl, (refl, (refl, (refl, (refl, (refl, (refl, (refl, (refl, (refl, (refl, (refl, (refl, (refl, (refl, (refl, (refl, (refl, (refl, (refl, (refl, (refl, (refl, (refl, (refl, (refl, (refl, (refl, (refl, (refl, (refl, (refl, (refl, (refl, (refl, (refl, (refl, (refl, (refl, (refl, (refl, (refl, (refl, (refl, (refl, (refl, (refl, (refl, (refl, (refl, (refl, (refl, (refl, (refl, (refl, (refl, (refl, (refl, (refl, (refl, (refl, (refl, (refl, (refl, (refl, (refl, (refl, (refl, (refl, (refl, (refl, (refl, (refl, (refl, (refl, (refl, (refl, (refl, (refl, (refl, (refl, (refl, (refl, (refl, (refl, tt)))))))))))))))))))))))))))))))))))))))))))))))))))))))))))))))))))))))))))))))))))))))))))))))))))))))))))))))))))))))))))))))))))))))))))))))))))))
