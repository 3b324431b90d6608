use Rattle.umf_answer.specs.Says.{material_says}
use Rattle.umf_answer.proofs.material_says.Goals as goal

pub returns : goal.returns
unfolding material_says
returns c = simp (c.word.ensures, c.word-2.ensures, c.word-3.ensures, c.word-4.ensures, c.word-5.ensures, c.word-6.ensures, c.word-7.ensures, c.time.ensures, c.time-2.ensures, c.half.ensures, c.half-2.ensures, c.half-3.ensures)
