-- Of the readers of FLT, media packets, names and auxiliary text: two inputs of each that get other answers, and one that is refused; computed by the checker.
use Prim.Native.Nat.{ℕ}
use mathlib.Core.Path.{◌≡◌, refl}
use mathlib.Core.List.{List, [], ◌∷◌, ◌++◌}
use lib.ListN.{take, drop}
use Rattle.std.specs.Prelude.{Result, Ok, Err}
use Rattle.number.specs.Number.{be, le}
use Rattle.media_type.specs.MediaType.{known_type, mpeg_type, wrong_form}
use Rattle.text.specs.Text.{text_ok}
use Rattle.packet.specs.Packet.{header_at, sized_at, packet_at}
use Rattle.plate.specs.Plate.{refusal}
use Rattle.map_items.specs.Items as items
use Rattle.map_items.specs.Judge as judge
use Rattle.map_items.specs.Find as find
use Rattle.map_answer.specs.Answer as answer
use Rattle.map_tracks.specs.Tracks as tracks
use Rattle.map.specs.Map as map
use Rattle.locator.specs.Locator as locator
use Rattle.media.specs.Media as media
use Rattle.map_name.specs.Name as name
use Rattle.map_name.specs.declared.OfTwo.TheVariants as two
use Rattle.mpeg_scan.specs.Scan as scan
use Rattle.mpeg_decimal.specs.Decimal as decimal
use Rattle.mpeg_parameter.specs.Table as table
use Rattle.mpeg_parameter.specs.Parameters as parameter
use Rattle.mpeg_parameter.specs.declared.ParameterValue.TheVariants as parameter-value
use Rattle.media.specs.declared.Media.{Media}
use Rattle.mpeg_parameter.specs.declared.Parameters.{Parameters}
use Rattle.plate.specs.declared.Refusal.{Refusal}
use Rattle.plate.specs.declared.Fault.TheVariants as fault
use Rattle.mpeg.specs.Lines as lines
use Rattle.mpeg.specs.Read as mpeg
use Rattle.mpeg.proofs.Worked.{text}
use Rattle.map.proofs.Samples.{headed, M}
use Rattle.paper_readings.specs.Streams.{carrying}

-- an FLT of a step with one entry, both under 256
abbrev pub located : ℕ → ℕ → List ℕ
located step entry = headed 0xFC 28 ++ (step ∷ 0 ∷ 0 ∷ 0 ∷ 1 ∷ 0 ∷ 0 ∷ 0 ∷ entry ∷ 0 ∷ 0 ∷ 0 ∷ [])

-- a map of track 1, of type 10, with another name at another place; and one of no track
abbrev pub N : List ℕ
N = headed 0xBC 0x28 ++ (0xE0 ∷ 0xFF ∷ 0 ∷ 0 ∷ 0 ∷ 0x0F ∷ 0x8A ∷ 0xC1 ∷ 0 ∷ 0x0B ∷ 0x4C ∷ 3 ∷ 0x42 ∷ 0x32 ∷ 0 ∷ 0x50 ∷ 4 ∷ 0xFF ∷ 0xFF ∷ 0xFF ∷ 0xFE ∷ 0 ∷ 0 ∷ 0 ∷ [])

abbrev pub bare : List ℕ
bare = headed 0xBC 0x18 ++ (0xE0 ∷ 0xFF ∷ 0 ∷ 0 ∷ 0 ∷ 0 ∷ 0 ∷ 0 ∷ [])

-- the text of mpeg's worked example says `Ipg 1`; this one `Ipg 2`
abbrev pub other : List ℕ
other = take 17 text ++ (0x32 ∷ drop 18 text)

-- the preamble of a packet `carrying` a field
abbrev pub carried : ℕ → Result Media Refusal
carried field = Ok (record { media_type = 10; track = 1; field = field; info = 0; timeline = 0; flags = 0 })

abbrev pub parameters : ℕ → Result Parameters Refusal
parameters ipg =
    Ok
    (record {
      ver = parameter-value.Whole 1;
      br = parameter-value.Rate (parameter.millionths 500000);
      ipg = parameter-value.Whole ipg;
      ppi = parameter-value.Whole 4;
      bpiop = parameter-value.Whole 2;
      pix = parameter-value.Whole 0;
      cf = parameter-value.Whole 2;
      cg = parameter-value.Whole 1;
      sl = parameter-value.Whole 31;
      nl16 = parameter-value.Whole 68;
      vi = parameter-value.Whole 1;
      f1 = parameter-value.Whole 1;
      cbpg = parameter-value.Whole 0;
      ar = parameter-value.Whole 0;
    })

pub record Pairs : Type 0 where
  -- FLT: step and count; then positions
  pub table_40 : locator.table_at (located 40 64) 0 ≡ Ok (record { step = 40; count = 1 })
  pub table_80 : locator.table_at (located 80 64) 0 ≡ Ok (record { step = 80; count = 1 })
  pub step_0 : locator.table_at (located 0 64) 0 ≡ Err (refusal fault.LocatorStep 16)
  pub position_64 : locator.position_at (located 40 64) 0 39 ≡ Ok 65536
  pub position_65 : locator.position_at (located 40 65) 0 39 ≡ Ok 66560
  pub position_past : locator.position_at (located 40 64) 0 40 ≡ Err (refusal fault.NotThere 0)
  -- media packets: the field number
  pub field_0 : media.preamble_at (carrying 0) 0 ≡ carried 0
  pub field_1 : media.preamble_at (carrying 1) 0 ≡ carried 1
  pub no_media : media.preamble_at M 0 ≡ Err (refusal fault.OtherType 0)
  -- names: A1 at 34, B2 at 28
  pub name_M : name.name_at M 1 ≡ Ok (record { at = 34; len = 2 })
  pub name_N : name.name_at N 1 ≡ Ok (record { at = 28; len = 2 })
  pub no_name : name.name_at M 2 ≡ Err (refusal fault.NotThere 0)
  -- of two maps
  pub closing : name.name_of_two_at M N 1 ≡ Ok (two.Closing (record { at = 28; len = 2 }))
  pub opening : name.name_of_two_at M bare 1 ≡ Ok (two.Opening (record { at = 34; len = 2 }))
  pub neither : name.name_of_two_at M N 2 ≡ Err (refusal fault.NotThere 0)
  -- auxiliary text
  pub ipg_1 : mpeg.read_of text ≡ parameters 1
  pub ipg_2 : mpeg.read_of other ≡ parameters 2
  pub no_text : mpeg.read_of [] ≡ Err (refusal fault.Text 0)

pub pairs : Pairs
unfolding header_at sized_at packet_at be le known_type mpeg_type wrong_form text_ok items.split_items items.section_of items.items_size judge.form_of judge.is_known judge.fault_of judge.counts_as judge.has judge.judge_items judge.verdict_of find.find answer.value_of answer.allowed answer.code_of answer.is_null answer.track_of tracks.split_tracks tracks.tracks_of tracks.track_over tracks.track_verdict tracks.end_verdict tracks.judge_tracks tracks.tracks_verdict tracks.is_listed tracks.listed tracks.record_of tracks.id_of map.after_material map.layout_of map.both_verdict map.sections_verdict map.map_verdict map.listed_in locator.table_of locator.table_at locator.position_of locator.position_at media.preamble_of media.preamble_at name.opened_of name.unended name.name_in name.name_at name.name_of_two_at mpeg.read_of mpeg.judge_lines mpeg.taken mpeg.parameters_answer lines.lines_at lines.lines_from lines.label_at parameter.lacking parameter.parameters_of parameter.value_of_row parameter.number_of parameter.given parameter.wanting parameter.amount_of table.table table.row_at table.other_row table.row_for table.row_of decimal.rate_of decimal.whole_of decimal.numeral_of decimal.fraction_of decimal.digits scan.run scan.run_end scan.alnum scan.other
pairs =
    record {
      table_40 = refl;
      table_80 = refl;
      step_0 = refl;
      position_64 = refl;
      position_65 = refl;
      position_past = refl;
      field_0 = refl;
      field_1 = refl;
      no_media = refl;
      name_M = refl;
      name_N = refl;
      no_name = refl;
      closing = refl;
      opening = refl;
      neither = refl;
      ipg_1 = refl;
      ipg_2 = refl;
      no_text = refl;
    }
