-- The bench readings give what the paper says, computed by the checker.
use mathlib.Core.Path.{◌≡◌, refl, ◌∙◌, ap}
use lib.Ieee as Ieee
use contract.Lifetimes.{Lfts}
use borrow.Fn.Kinds.{ended_of, Dens}
use denote.Triple.Clauses.{AtExit}
use Rattle.std.specs.Prelude.{Result}
use Rattle.number.specs.Number.{be, le}
use Rattle.media_type.specs.MediaType.{known_type, mpeg_type, wrong_form}
use Rattle.text.specs.Text.{text_ok}
use Rattle.packet.specs.Packet.{header_at, sized_at, packet_at}
use Rattle.map_items.specs.Items as items
use Rattle.map_items.specs.Judge as judge
use Rattle.map_items.specs.Find as find
use Rattle.map_aspect.specs.Aspect as aspect
use Rattle.map_answer.specs.Answer as answer
use Rattle.map_tracks.specs.Tracks as tracks
use Rattle.map.specs.Map as map
use Rattle.map_name.specs.Name as name
use Rattle.locator.specs.Locator as locator
use Rattle.mpeg_scan.specs.Scan as scan
use Rattle.mpeg_decimal.specs.Decimal as decimal
use Rattle.mpeg_parameter.specs.Table as row
use Rattle.mpeg_parameter.specs.Parameters as parameter
use Rattle.mpeg_parameter.specs.Meaning as meaning
use Rattle.mpeg.specs.Lines as lines
use Rattle.mpeg.specs.Read as mpeg
use Rattle.mpeg.specs.Meaning as text
use Rattle.mpeg.proofs.read.Kinds as read-kinds
use Rattle.mpeg.proofs.read.Reads as read-reads
use Rattle.mpeg.proofs.Worked as worked
use Rattle.paper_readings.specs.Table.{Agree, text_means, br_half, readings}
use Rattle.mpeg_parameter.specs.declared.Parameters.{Parameters}
use Rattle.plate.specs.declared.Refusal.{Refusal}

pub readings_agree : Agree readings
unfolding readings header_at sized_at packet_at be known_type mpeg_type wrong_form text_ok items.split_items items.section_of items.items_size judge.form_of judge.is_known judge.fault_of judge.counts_as judge.has judge.judge_items judge.verdict_of find.find answer.value_of answer.allowed answer.code_of answer.is_null answer.material_of answer.track_of aspect.aspect_of tracks.split_tracks tracks.tracks_of tracks.track_over tracks.track_verdict tracks.end_verdict tracks.judge_tracks tracks.tracks_verdict tracks.is_listed tracks.listed tracks.record_of tracks.kth_of tracks.id_of map.after_material map.layout_of map.both_verdict map.sections_verdict map.map_verdict map.material_says map.listed_in map.answer_of map.track_in map.map_at map.track_at name.opened_of name.unended name.name_in name.name_at le locator.position_at locator.position_of locator.table_of answer.meaning_of mpeg.read_of mpeg.judge_lines mpeg.taken mpeg.parameters_answer lines.lines_at lines.lines_from lines.label_at text.given_by text.given_in parameter.lacking parameter.parameters_of parameter.value_of_row parameter.number_of parameter.given parameter.wanting parameter.amount_of row.table row.row_at row.other_row row.row_for row.row_of decimal.rate_of decimal.whole_of decimal.numeral_of decimal.fraction_of decimal.digits scan.run scan.run_end scan.alnum scan.other meaning.meaning_of parameter.millionths Ieee.to_bits Ieee.div Ieee.of_int Ieee.round
readings_agree = (refl, (refl, (refl, (refl, (refl, (refl, (refl, (refl, (refl, (refl, (refl, (refl, (refl, (refl, (refl, (refl, (refl, (refl, (refl, tt)))))))))))))))))))

-- the last reading over the contract of `mpeg::read`: whatever outcome it allows on that text means that
pub br_read : (κs : Lfts 1) (a : Dens κs read-kinds.ps) (x : Result Parameters Refusal) (s : AtExit (ended_of 1 read-kinds.ps read-kinds.r) κs)
    → a.0.now ≡ worked.text → read-reads.Post κs a x s → text_means x ≡ br_half
unfolding meaning.meaning_of parameter.millionths Ieee.to_bits Ieee.div Ieee.of_int Ieee.round
br_read κs a x s e p = ap text_means (p ∙ ap mpeg.read_of e ∙ worked.whole_text)
