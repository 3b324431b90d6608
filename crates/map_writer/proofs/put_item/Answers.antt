use borrow.Author.Rules.{rules}
use native.Mathlib.Omega.{arith}
use native.Mathlib.Nat.{add-sub_cancel_left}
use borrow.Author.Tests.{eq-eqb, ne_eqb}
use Rattle.map_given.specs.Faults.{is_eight}
use mathlib.Core.Path.{sym, ◌∙◌, ap}
use lib.Seq.{sets}
use Rattle.map_writer.proofs.Puts.{part_long, text_bytes, eight_bytes, number_bytes, size_text, size_eight, size_number}
use Rattle.map_given.proofs.Clean.{eight_fits}
use Rattle.map_given.proofs.Laws.{text_fits}
use Rattle.map_writer.proofs.put_item.Goals as goal

pub overflow_add-to : goal.overflow_add-to
overflow_add-to c = let h = text_fits _ _ (sym c.is_text.ensures ∙ c.if-is_text.true) c.requires.2 in search rules

pub slice_bounds-put_text-end : goal.slice_bounds-put_text-end
slice_bounds-put_text-end c = let h = text_fits _ _ (sym c.is_text.ensures ∙ c.if-is_text.true) c.requires.2 in search rules

pub put_text-requires : goal.put_text-requires
put_text-requires c = let a = c.args in
    let t = sym c.is_text.ensures ∙ c.if-is_text.true in
    let h = text_fits a.text.now a.s t c.requires.2 in
    let z = size_text a.text.now a.s c.requires.1 t h.1 in
    rw (add-sub_cancel_left, part_long a.text.now a.s.first a.s.second h.0) (omega (arith, c.requires.0, z), h.1)

pub returns-then-is_text : goal.returns-then-is_text
returns-then-is_text c = let a = c.args in
    let t = sym c.is_text.ensures ∙ c.if-is_text.true in
    let h = text_fits a.text.now a.s t c.requires.2 in
    rw (c.put_text.ensures, add-sub_cancel_left, part_long a.text.now a.s.first a.s.second h.0) (ap (sets a.out.now a.pos) (sym (text_bytes a.text.now a.s c.requires.1 t h.0)))

pub overflow_add-from : goal.overflow_add-from
unfolding is_eight
overflow_add-from c = let h = eight_fits c.args.text.now c.args.s (sym c.is_text.ensures ∙ c.if-is_text.false) (eq-eqb _ _ c.if-s-eq77.true) c.requires.2 in search rules

pub slice_bounds-put_part-end : goal.slice_bounds-put_part-end
unfolding is_eight
slice_bounds-put_part-end c = let h = eight_fits c.args.text.now c.args.s (sym c.is_text.ensures ∙ c.if-is_text.false) (eq-eqb _ _ c.if-s-eq77.true) c.requires.2 in search rules

pub put_part-requires : goal.put_part-requires
unfolding is_eight
put_part-requires c = let a = c.args in
    let t = sym c.is_text.ensures ∙ c.if-is_text.false in
    let e = eq-eqb _ _ c.if-s-eq77.true in
    let h = eight_fits a.text.now a.s t e c.requires.2 in
    let z = size_eight a.text.now a.s c.requires.1 t e in
    rw (add-sub_cancel_left, part_long a.text.now a.s.first 8 h.1) (omega (arith, c.requires.0, z))

pub returns-then-s-eq77 : goal.returns-then-s-eq77
unfolding is_eight
returns-then-s-eq77 c = let a = c.args in
    let h = eight_fits a.text.now a.s (sym c.is_text.ensures ∙ c.if-is_text.false) (eq-eqb _ _ c.if-s-eq77.true) c.requires.2 in
    rw (c.put_part.ensures, add-sub_cancel_left, eight_bytes a.text.now a.s c.requires.1 c.if-s-eq77.true h.0 h.1, c.if-s-eq77.true)

pub put_number-requires : goal.put_number-requires
unfolding is_eight
put_number-requires c = let a = c.args in
    let z = size_number a.text.now a.s c.requires.1 (sym c.is_text.ensures ∙ c.if-is_text.false) (ne_eqb _ _ c.if-s-eq77.false) in
    omega (arith, c.requires.0, z)

pub returns-else-s-eq77 : goal.returns-else-s-eq77
unfolding is_eight
returns-else-s-eq77 c = let a = c.args in
    c.put_number.ensures ∙ ap (sets a.out.now a.pos) (sym (number_bytes a.text.now a.s c.requires.1 (sym c.is_text.ensures ∙ c.if-is_text.false) (ne_eqb _ _ c.if-s-eq77.false)))
