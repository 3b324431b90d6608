use borrow.Author.Tests.{eq-eqb, ne_eqb}
use mathlib.Core.Path.{◌≡◌, refl, sym, ◌∙◌}
use mathlib.Core.Bool.{Bool, true, false}
use lib.Dec.{eqb}
use lib.ListN.{get_or}
use Rattle.plate.specs.Choice.{pick}
use Rattle.plate.proofs.Tests.{no_choice}
use Rattle.field.specs.Field.{carries_two, is_field}
use Rattle.field.proofs.Laws.{two_even, other_half}
use Rattle.stream.specs.Stream.{carries_as}
use Rattle.stream.proofs.carries.Goals as goal

as-it-is : (b : Bool) → pick b true false ≡ b
as-it-is true = refl
as-it-is false = refl

pub returns-then-x-ne-MEDIA : goal.returns-then-x-ne-MEDIA
unfolding carries_as
returns-then-x-ne-MEDIA c = rw (ne_eqb _ _ c.if-x-ne-MEDIA.true)

pub returns-then-x-field : goal.returns-then-x-field
unfolding carries_as
returns-then-x-field c = let a = c.args in rw (eq-eqb _ _ c.if-x-ne-MEDIA.false, other_half _ a.x.field a.field (two_even (get_or a.types.now a.x.track 0) a.x.field) c.if-x-field.true) (sym (no_choice (eqb a.x.track a.track) false))

pub returns-then-x-track : goal.returns-then-x-track
unfolding carries_as
returns-then-x-track c = rw (eq-eqb _ _ c.if-x-ne-MEDIA.false, ne_eqb _ _ c.if-x-track.true)

pub by_half-requires : goal.by_half-requires
by_half-requires c = c.if-x-field.false

pub returns-then-is_known : goal.returns-then-is_known
unfolding carries_as
returns-then-is_known c = let a = c.args in
    let b = is_field (carries_two (get_or a.types.now a.x.track 0) a.x.field) a.x.field a.field in
    c.by_half.ensures
    ∙ rw (eq-eqb _ _ c.if-x-ne-MEDIA.false, eq-eqb _ _ c.if-x-track.false, sym c.is_known.ensures ∙ c.if-is_known.true) (sym (as-it-is b))

pub returns-else-is_known : goal.returns-else-is_known
unfolding carries_as
returns-else-is_known c = let a = c.args in
    let b = is_field (carries_two (get_or a.types.now a.x.track 0) a.x.field) a.x.field a.field in
    c.if-is_known.false ∙ rw (eq-eqb _ _ c.if-x-ne-MEDIA.false, eq-eqb _ _ c.if-x-track.false, sym c.is_known.ensures ∙ c.if-is_known.false) (sym (no_choice b false))
