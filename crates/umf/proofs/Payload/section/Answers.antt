use Rattle.umf.proofs.Payload.section.Goals as goal

pub returns : goal.returns
returns c = let o = c.offset_at-o.ensures.0 in (rw o at c.word.ensures.0, c.word.ensures.1, rw o at c.word-2.ensures.0, c.word-2.ensures.1)
