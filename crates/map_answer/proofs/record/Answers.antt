use Rattle.std.specs.Prelude.{None}
use Rattle.map_answer.proofs.Laws.{shown_in, shown_bytes_lem}
use Rattle.map_answer.specs.Answer.{track_of}
use Rattle.map_items.specs.Items.{section_of}
use Rattle.map_items.specs.Find.{find, part_of}
use Rattle.map_answer.specs.Answer.{is_null}
use mathlib.Core.Path.{◌≡◌}
use Rattle.plate.specs.Choice.{pick}
use Rattle.map_answer.proofs.record.Goals as goal

pub part_bytes-bits-requires : goal.part_bytes-bits-requires
part_bytes-bits-requires c = rw c.shown-aux.ensures (shown_in 0x4D c.args.base c.args.s.now c.is_null-null.result)

pub part_bytes-text-requires : goal.part_bytes-text-requires
part_bytes-text-requires c = rw c.shown-mpeg.ensures (shown_in 0x4F c.args.base c.args.s.now c.is_null-null.result)

pub returns : goal.returns
unfolding track_of
returns c = let s = c.args.s.now in
    let base = c.args.base in
    let null = c.is_null-null.result in
    -- what is shown of 4D and 4F, and its bytes
    let aux : c.shown-aux.result ≡ pick null None (part_of (find 0x4D base (section_of s).list)) = c.shown-aux.ensures in
    let mpeg : c.shown-mpeg.result ≡ pick null None (part_of (find 0x4F base (section_of s).list)) = c.shown-mpeg.ensures in
    let bits = rw (aux, shown_bytes_lem 0x4D base s null) at c.part_bytes-bits.ensures in
    let text = rw (mpeg, shown_bytes_lem 0x4F base s null) at c.part_bytes-text.ensures in
    let is-null : null ≡ is_null (part_of (find 0x4C base (section_of s).list)) = rw c.found-name.ensures at c.is_null-null.ensures in
    simp (c.bare-id.ensures, c.bare-media_type.ensures, c.code_at-rate.ensures, c.code_at-lines.ensures, c.code_at-fields.ensures, c.found-name.ensures, c.version-version.ensures, aux, mpeg, c.of_track-aspect.ensures, bits, text, is-null)
