-- Bytes lacking, from the theorems of packet and stream, and of the readers that pass them on.
use mathlib.Core.Path.{sym, ◌∙◌}
use native.Mathlib.Omega.{arith}
use Rattle.plate.proofs.Numbers.{other}
use Rattle.packet.proofs.Torn.{lacking, cut_off, type_passes, type_passed}
use Rattle.walker.proofs.Laws.{step_lacking, walk_lacking}
use Rattle.map.proofs.Numbers.{map_passes, map_passed, track_passes, track_passed}
use Rattle.map_records.proofs.Numbers.{fill_passes, fill_passed}
use Rattle.map_name.proofs.Numbers.{opened_passes, opened_passed, name_passes, name_passed, opening_passes, closing_passes, two_passed}
use Rattle.locator.proofs.Numbers.{table_passes, table_passed, position_passes, position_passed}
use Rattle.media.proofs.Numbers.{preamble_passes, preamble_passed}
use Rattle.mpeg.proofs.Numbers.{text_refused}
use Rattle.stream.proofs.Torn.{check_lacking, check_opens, seek_lacking, seek_opens}
use Rattle.stream.proofs.CutOff.{check_cut, seek_cut}
use Rattle.book.proofs.Numbers.{lookup_refused}
use Rattle.book_builder.proofs.Torn.{build_lacking, build_cut, build_opens}
use Rattle.paper_readings.proofs.Given.{check_is, seek_is, lookup_is, table_is, position_is, preamble_is, place_is, place_of_two_is, parameters_is}
use Rattle.paper_readings.proofs.Calls.{header_is, of_type_is, walk_is, map_is, track_is, built_is}
use Rattle.promises.specs.BytesLacking.{BytesLacking}

pub bytes_lacking : BytesLacking
bytes_lacking =
    record {
      header = λ s at r g. lacking s at r (sym (header_is s at _ g));
      cut = cut_off;
      of_type = λ s at type. (λ r e x g. of_type_is s at type x g ∙ type_passes s at type r e, λ r g. type_passed s at type r (sym (of_type_is s at type _ g)));
      step = λ w r v g. step_lacking w r v g;
      walk = λ s at n x g. walk_lacking s at n x (walk_is s at n x g);
      map = λ s at. (λ r e x g. map_is s at x g ∙ map_passes s at r e, λ r g. map_passed s at r (sym (map_is s at _ g)));
      track = λ s at k. (λ r e x g. track_is s at k x g ∙ track_passes s at r k e, λ r g. track_passed s at r k (sym (track_is s at k _ g)));
      fill = λ ys s at zs. (λ r e x g. fill_passes ys s at zs r e x g, λ r g. fill_passed ys s at zs r g);
      place = λ s id. (λ r e x g. place_is s id x g ∙ name_passes s id r e, λ r g. name_passed s id r (sym (place_is s id _ g)));
      opened = λ s. (λ r e x g. g ∙ opened_passes s r e, λ r g. opened_passed s r (sym g));
      opening = λ a b id r e x g. place_of_two_is a b id x g ∙ opening_passes a b id r e;
      closing = λ a b id n h r e x g. place_of_two_is a b id x g ∙ closing_passes a b id r n h e;
      place_of_two_lem = λ a b id r g. two_passed a b id r (sym (place_of_two_is a b id _ g));
      table = λ s at. (λ r e x g. table_is s at x g ∙ table_passes s at r e, λ r g. table_passed s at r (sym (table_is s at _ g)));
      position = λ s at d. (λ r e x g. position_is s at d x g ∙ position_passes s at r d e, λ r g. position_passed s at r d (sym (position_is s at d _ g)));
      preamble = λ s at. (λ r e x g. preamble_is s at x g ∙ preamble_passes s at r e, λ r g. preamble_passed s at r (sym (preamble_is s at _ g)));
      check = λ s r g. check_lacking s r (sym (check_is s _ g));
      check_cut = check_cut;
      check_opens = check_opens;
      seek = λ s track field r g. seek_lacking track field s r (sym (seek_is s track field _ g));
      seek_cut = seek_cut;
      seek_opens = seek_opens;
      build = λ l s r o g. build_lacking l s r (sym (built_is l s _ o g).0);
      build_cut = build_cut;
      build_opens = build_opens;
      lookup = λ s track field r g. let k = lookup_refused s track field r (sym (lookup_is s track field _ g)) in (other r k (omega arith), k.2 (other r k (omega arith)));
      parameters = λ s r g. let k = text_refused s r (sym (parameters_is s _ g)) in (other r k (omega arith), k.2 (other r k (omega arith)));
    }
