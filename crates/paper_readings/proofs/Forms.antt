-- The readings of the wrong auxiliary form, computed.
use mathlib.Core.Path.{refl}
use Rattle.number.specs.Number.{be, be_bytes}
use Rattle.text.specs.Text.{text_ok}
use Rattle.media_type.specs.MediaType.{known_type, mpeg_type, wrong_form}
use Rattle.packet.specs.Packet.{header_at, sized_at, packet_at}
use Rattle.map_items.specs.Items as items
use Rattle.map_items.specs.Judge as judge
use Rattle.map_items.specs.Find as find
use Rattle.mpeg.specs.Read.{read_of}
use Rattle.map_aspect.specs.Aspect as aspect
use Rattle.map_answer.specs.Answer as answer
use Rattle.map_tracks.specs.Tracks as tracks
use Rattle.map.specs.Map as map
use Rattle.map.specs.Encode as encode
use Rattle.map_name.specs.Name as name
use Rattle.map_given.specs.Given.{slots, tracks_from}
use Rattle.map_given.specs.Faults.{is_text, is_eight, is_code, code_fits, fits, reads, slot_fault, slots_fault, null_name, barred, own_fault, tracks_fault, id_fault, ids_fault, fault_of, given_wrong, any_wrong}
use Rattle.map_given.specs.Faults as faults
use Rattle.map_writer.specs.Write.{slot_value, items_of, parts_given, map_packet, map_written_answer}
use Rattle.paper_readings.specs.Table.{Agree}
use Rattle.paper_readings.specs.Forms.{forms, given}

pub forms_agree : Agree forms
unfolding forms header_at sized_at packet_at be known_type mpeg_type wrong_form text_ok items.split_items items.section_of items.items_size judge.form_of judge.is_known judge.fault_of judge.counts_as judge.has judge.judge_items judge.verdict_of find.find answer.value_of answer.allowed answer.code_of answer.is_null answer.material_of answer.track_of aspect.aspect_of aspect.text_aspect read_of tracks.split_tracks tracks.tracks_of tracks.track_over tracks.track_verdict tracks.end_verdict tracks.judge_tracks tracks.tracks_verdict tracks.is_listed tracks.listed tracks.record_of tracks.kth_of map.after_material map.layout_of map.both_verdict map.sections_verdict map.map_verdict map.material_says map.listed_in map.answer_of map.map_at map.track_in map.track_at name.opened_of name.unended name.name_in name.name_at name.name_of_two_at
forms_agree = (refl, (refl, (refl, (refl, (refl, (refl, (refl, (refl, (refl, (refl, (refl, (refl, (refl, (refl, (refl, (refl, (refl, (refl, (refl, (refl, (refl, (refl, (refl, (refl, (refl, (refl, (refl, (refl, (refl, (refl, (refl, (refl, (refl, (refl, (refl, (refl, (refl, (refl, (refl, (refl, (refl, (refl, (refl, (refl, (refl, (refl, (refl, (refl, (refl, tt)))))))))))))))))))))))))))))))))))))))))))))))))

pub given_agree : Agree given
unfolding given map_written_answer any_wrong given_wrong wrong_form mpeg_type fault_of slots_fault slot_fault fits reads is_text is_eight is_code code_fits answer.allowed judge.has text_ok known_type tracks_fault own_fault barred null_name faults.given ids_fault id_fault slots tracks_from map_packet parts_given items_of slot_value encode.encode encode.packet_of encode.front encode.section_bytes encode.packet_length encode.padding encode.described items.items_bytes tracks.descriptions_bytes be_bytes
given_agree = (refl, (refl, (refl, (refl, (refl, (refl, (refl, (refl, (refl, (refl, (refl, (refl, (refl, (refl, (refl, (refl, (refl, tt)))))))))))))))))
