-- `Position::recoloured` meets its contract.
use Rattle.position.proofs.laws.OwnerLaws.{by_slots}
use Rattle.position.proofs.Position.recoloured.Goals as goal

pub returns : goal.returns
returns c =
    by_slots c.args.self _ _ _ c.opposite.ensures
    c.slot_recoloured.ensures c.slot_recoloured-2.ensures
