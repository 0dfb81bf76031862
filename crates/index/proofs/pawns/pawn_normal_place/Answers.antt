-- `index::pawns::pawn_normal_place` meets its contract.
use Rattle.index.specs.Arranging.{pawn_normal_as}
use Rattle.index.proofs.pawns.pawn_normal_place.Goals as goal

pub returns : goal.returns
unfolding pawn_normal_as
returns c =
    rw (
      c.pawn_place-place.ensures,
      c.pawn_men-men.ensures,
      c.pawn_normal-normal.ensures,
      c.man_in-man.ensures,
    )
