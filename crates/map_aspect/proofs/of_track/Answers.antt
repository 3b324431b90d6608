use native.Mathlib.Omega.{arith}
use mathlib.Core.Path.{sym, ◌∙◌}
use borrow.Author.Tests.{le-leb, lt-leb}
use Rattle.map_aspect.specs.Aspect.{aspect_of}
use Rattle.map_aspect.proofs.of_track.Goals as goal

pub returns-then-is_mpeg : goal.returns-then-is_mpeg
unfolding aspect_of
returns-then-is_mpeg c = simp (sym c.is_mpeg.ensures ∙ c.if-is_mpeg.true) c.of_text.ensures

pub returns-in-13-to-14 : goal.returns-in-13-to-14
unfolding aspect_of
returns-in-13-to-14 c = let k = c.args.media_type in simp (sym c.is_mpeg.ensures ∙ c.if-is_mpeg.false, le-leb 13 k (omega arith), le-leb k 14 (omega arith)) c.of_dv.ensures

pub returns-in-15-to-16 : goal.returns-in-15-to-16
unfolding aspect_of
returns-in-15-to-16 c = let k = c.args.media_type in simp (sym c.is_mpeg.ensures ∙ c.if-is_mpeg.false, le-leb 13 k (omega arith), lt-leb k 14 (omega arith), le-leb 15 k (omega arith), le-leb k 16 (omega arith)) c.of_dv-in-15-to-16.ensures

pub returns-in_default : goal.returns-in_default
unfolding aspect_of
returns-in_default c = let k = c.args.media_type in simp (sym c.is_mpeg.ensures ∙ c.if-is_mpeg.false, lt-leb 13 k (omega arith), lt-leb 15 k (omega arith))

pub returns-in_default-2 : goal.returns-in_default-2
unfolding aspect_of
returns-in_default-2 c = let k = c.args.media_type in simp (sym c.is_mpeg.ensures ∙ c.if-is_mpeg.false, le-leb 13 k (omega arith), lt-leb k 14 (omega arith), le-leb 15 k (omega arith), lt-leb k 16 (omega arith))
