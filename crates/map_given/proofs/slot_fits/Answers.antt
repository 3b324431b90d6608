use native.Mathlib.Omega.{arith}
use borrow.Author.Tests.{lt-ltb, le-ltb, le-leb, lt-leb, eq-eqb, ne_eqb}
use Rattle.map_given.specs.Faults.{is_eight, is_code, fits}
use mathlib.Core.Path.{sym, ◌∙◌}
use Rattle.map_given.proofs.slot_fits.Goals as goal

pub returns-then-s-le254 : goal.returns-then-s-le254
unfolding fits
returns-then-s-le254 c = simp (sym c.is_text.ensures ∙ c.if-is_text.true, le-ltb _ _ c.if-s-le254.true) c.lies_inside.ensures

pub returns-else-s-le254 : goal.returns-else-s-le254
unfolding fits
returns-else-s-le254 c = simp (sym c.is_text.ensures ∙ c.if-is_text.true, lt-ltb _ _ c.if-s-le254.false, lt-leb _ _ c.if-s-le254.false)

pub returns-then-s-eq8 : goal.returns-then-s-eq8
unfolding fits is_eight
returns-then-s-eq8 c = simp (sym c.is_text.ensures ∙ c.if-is_text.false, eq-eqb _ _ c.in-77.is, eq-eqb _ _ c.if-s-eq8.true) c.lies_inside-then-s-eq8.ensures

pub returns-else-s-eq8 : goal.returns-else-s-eq8
unfolding fits is_eight
returns-else-s-eq8 c = simp (sym c.is_text.ensures ∙ c.if-is_text.false, eq-eqb _ _ c.in-77.is, ne_eqb _ _ c.if-s-eq8.false)

pub returns-in-80-to-255 : goal.returns-in-80-to-255
unfolding fits is_eight is_code
returns-in-80-to-255 c = let t = c.args.s.tag in simp (sym c.is_text.ensures ∙ c.if-is_text.false, ne_eqb t 0x4D (λ e. omega arith), le-leb 0x50 t (omega arith)) c.code_fits.ensures

pub returns-in_default-2 : goal.returns-in_default-2
unfolding fits is_eight is_code
returns-in_default-2 c = let t = c.args.s.tag in simp (sym c.is_text.ensures ∙ c.if-is_text.false, ne_eqb t 0x4D (λ e. omega arith), lt-leb 0x50 t (omega arith))
