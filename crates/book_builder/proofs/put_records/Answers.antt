use native.Mathlib.Omega.{arith}
use mathlib.Core.Path.{refl, sym, ◌∙◌, ap}
use mathlib.Core.List.{List}
use lib.ListN.{length}
use Rattle.book.specs.Book.{book_bytes}
use Rattle.book.specs.declared.Entry.{Entry}
use Rattle.book_builder.proofs.Laws.{here_one, here_none, bytes_one}
use Rattle.book_builder.proofs.Sound.{known_of}
use Rattle.book_builder.proofs.put_records.Goals as goal

pub marked_type-media_type-requires : goal.marked_type-media_type-requires
marked_type-media_type-requires c = known_of _ (sym c.is_recorded.ensures ∙ c.if-is_recorded.true)

pub put_record-requires : goal.put_record-requires
put_record-requires c = let a = c.args in
    let h = ap (λ (es : List Entry). length es) (here_one a.at a.listed a.x (sym c.is_recorded.ensures ∙ c.if-is_recorded.true)) in
    omega (arith, h)

pub overflow_add-result : goal.overflow_add-result
overflow_add-result c = let a = c.args in
    let h = ap (λ (es : List Entry). length es) (here_one a.at a.listed a.x (sym c.is_recorded.ensures ∙ c.if-is_recorded.true)) in
    omega (arith, h)

pub returns-then-is_recorded : goal.returns-then-is_recorded
returns-then-is_recorded c = let a = c.args in
    rw (here_one a.at a.listed a.x (sym c.is_recorded.ensures ∙ c.if-is_recorded.true), bytes_one) (omega arith, rw c.marked_type-media_type.ensures at c.put_record.ensures)

pub returns : goal.returns
unfolding book_bytes
returns c = let a = c.args in rw (here_none a.at a.listed a.x (sym c.is_recorded.ensures ∙ c.if-is_recorded.false)) (omega arith, refl)
