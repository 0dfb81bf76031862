use Rattle.position.proofs.occupancy.pieces_of.Goals as goal

pub returns : goal.returns
returns c = simp (c.man_in.ensures, c.man_in-2.ensures)
