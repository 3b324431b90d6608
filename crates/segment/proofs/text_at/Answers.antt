use mathlib.Core.Path.{◌≡◌, sym, ◌∙◌}
use Rattle.std.proofs.Common.{rules, tests}
use Rattle.std.proofs.lemmas.Iterator.{YieldsList-from_slice}
use Rattle.std.proofs.lemmas.Iterator.Search.{position_from_yields_List}
use Rattle.std.specs.List.{position}
use Rattle.segment.proofs.Names.{ends, nowhere, is_text, no_text}
use Rattle.segment.proofs.text_at.Goals.{After-position}
use Rattle.segment.proofs.text_at.Goals as goal

found : (c : After-position) → c.position.result ≡ position ends c.args.s.now
found c = position_from_yields_List ends _ _ c.position.result c.position.ensures.ran (YieldsList-from_slice _ c.iter.ensures.rest) (λ x b q k. search (rules, tests))

pub returns-in_err-len : goal.returns-in_err-len
returns-in_err-len c = rw c.from_residual.ensures (nowhere _ _ (sym (found (goal.at.returns-in_err-len c).After-position) ∙ c.in_err-len.was))

pub returns-then-s-len-ne0 : goal.returns-then-s-len-ne0
returns-then-s-len-ne0 c = no_text _ _ _ (sym (found (goal.at.returns-then-s-len-ne0 c).After-position) ∙ c.in_ok-len.was) c.if-s-len-ne0.true

pub returns : goal.returns
returns c = is_text _ _ _ (sym (found (goal.at.returns c).After-position) ∙ c.in_ok-len.was) c.if-s-len-ne0.false
