use Rattle.map_answer.specs.Answer.{material_of}
use Rattle.map_answer.proofs.material_says.Goals as goal

pub returns : goal.returns
unfolding material_of
returns c = simp (c.found-name.ensures, c.value_at-first.ensures, c.value_at-last.ensures, c.value_at-mark_in.ensures, c.value_at-mark_out.ensures, c.value_at-size.ensures)
