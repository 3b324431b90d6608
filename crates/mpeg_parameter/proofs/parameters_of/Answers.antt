use Rattle.mpeg_parameter.specs.Parameters.{parameters_of}
use Rattle.mpeg_parameter.proofs.parameters_of.Goals as goal

pub returns : goal.returns
unfolding parameters_of
returns c = simp (c.value_of.ensures, c.value_of-2.ensures, c.value_of-3.ensures, c.value_of-4.ensures, c.value_of-5.ensures, c.value_of-6.ensures, c.value_of-7.ensures, c.value_of-8.ensures, c.value_of-9.ensures, c.value_of-10.ensures, c.value_of-11.ensures, c.value_of-12.ensures, c.value_of-13.ensures, c.value_of-14.ensures)
