-- `pawn_numbers::square_back` meets its contract: a flip takes itself back.
use Rattle.symmetry.specs.Symmetry.{inverse}
use Rattle.pawn_numbers.proofs.flips.square_back.Goals as goal

pub returns : goal.returns
unfolding inverse
returns c = c.square_flipped.ensures
