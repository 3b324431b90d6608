use Rattle.umf_answer.specs.Says.{payload_says}
use Rattle.umf_answer.proofs.payload_says.Goals as goal

pub returns : goal.returns
unfolding payload_says
returns c = simp (c.shown_if.ensures, c.word.ensures, c.word-version.ensures, c.word-2.ensures, c.word-3.ensures, c.word-4.ensures, c.word-5.ensures, c.word-6.ensures, c.word-7.ensures, c.word-8.ensures, c.word-9.ensures)
