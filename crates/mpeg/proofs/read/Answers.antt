use native.Mathlib.Omega.{arith}
use mathlib.Core.Path.{sym, ◌∙◌}
use Rattle.std.proofs.lemmas.Result.{err_from_is_err_and}
use Rattle.mpeg.specs.Read.{read_of}
use Rattle.mpeg.proofs.Laws.{text_some, answer_err, answer_ok}
use Rattle.mpeg.proofs.read.Goals as goal

pub overflow_sub-end : goal.overflow_sub-end
overflow_sub-end c = let w = text_some c.args.v.now (sym c.is_text.ensures ∙ c.if-not-is_text.false) in omega arith

pub returns-then-not-is_text : goal.returns-then-not-is_text
unfolding read_of
returns-then-not-is_text c = simp (sym c.is_text.ensures ∙ c.if-not-is_text.true, c.refuse.ensures)

pub returns-in_err-ident : goal.returns-in_err-ident
unfolding read_of
returns-in_err-ident c =
    let p = err_from_is_err_and c.from_residual.result c.from_residual.ensures.1 in
    rw (p.1, p.2) (simp (sym c.is_text.ensures ∙ c.if-not-is_text.false, sym c.in_err-ident.ensures.0))

pub returns-in_err-completed : goal.returns-in_err-completed
unfolding read_of
returns-in_err-completed c =
    let p = err_from_is_err_and c.from_residual-in_err-completed.result c.from_residual-in_err-completed.ensures.1 in
    rw (p.1, p.2)
    (simp (sym c.is_text.ensures ∙ c.if-not-is_text.false, sym c.in_ok-ident.ensures.0, sym c.in_ok-ident.ensures.1, answer_err c.ident.new.slots c.in_err-completed.field-0.0 (sym c.in_err-completed.ensures)))

pub returns : goal.returns
unfolding read_of
returns c = simp (sym c.is_text.ensures ∙ c.if-not-is_text.false, sym c.in_ok-ident.ensures.0, sym c.in_ok-ident.ensures.1, c.parameters_of.ensures, answer_ok c.ident.new.slots (sym c.in_ok-completed.ensures))
