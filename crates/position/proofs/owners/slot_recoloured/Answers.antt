-- `position::slot_recoloured` meets its contract.
use Rattle.position.proofs.laws.OwnerLaws.{by-slot}
use Rattle.position.proofs.owners.slot_recoloured.Goals as goal

pub returns-in-Some : goal.returns-in-Some
returns-in-Some c = by-slot _ _ _ c.in-Some.is c.opposite.ensures
