use Rattle.count_map.proofs.accepted.Goals as goal

pub returns : goal.returns
returns c = simp (c.place_of.ensures, c.length_of.ensures, c.or_none.ensures, c.or_none-2.ensures, c.or_none-3.ensures, c.or_none-4.ensures, c.or_none-5.ensures)
