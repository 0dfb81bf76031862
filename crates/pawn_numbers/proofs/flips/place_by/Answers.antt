-- `pawn_numbers::place_by` meets its contract.
use Rattle.pawn_numbers.specs.Places.{place_by}
use Rattle.pawn_numbers.proofs.flips.place_by.Goals as goal

pub returns : goal.returns
unfolding place_by
returns c =
    rw (
      c.side_flipped.ensures,
      c.square_flipped.ensures,
      c.square_flipped-2.ensures,
      c.square_flipped-3.ensures,
    )
