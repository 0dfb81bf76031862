-- `position::posed` meets its contract.
use Rattle.position.specs.Posed.{posed}
use Rattle.position.proofs.places.posed.Goals as goal

pub returns : goal.returns
unfolding posed
returns c = simp (c.slot_at.ensures, c.slot_at-2.ensures)
