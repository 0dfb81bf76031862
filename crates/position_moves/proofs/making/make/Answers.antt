use Rattle.movegen.specs.After.{after}
use Rattle.position_moves.proofs.making.make.Goals as goal

pub returns : goal.returns
unfolding after
returns c =
    simp (
      c.other.ensures,
      c.carried.ensures,
      c.carried-2.ensures,
      c.slot_after.ensures,
      c.slot_after-2.ensures,
    )
