-- `movegen::place_after` meets its contract.
use Rattle.movegen.specs.Places.{place_after}
use Rattle.movegen.proofs.places.place_after.Goals as goal

pub returns : goal.returns
unfolding place_after
returns c =
    simp (
      c.other.ensures,
      c.carried.ensures,
      c.carried-2.ensures,
      c.square_after.ensures,
      c.square_after-2.ensures,
    )
