-- `retracting::place_before` meets its contract.
use Rattle.retracting.proofs.laws.Code.{before-by}
use Rattle.retracting.proofs.places.place_before.Goals as goal

pub returns : goal.returns
returns c = before-by _ _ _ _ _ _ _ c.place_after-o.ensures c.again.ensures c.again-2.ensures
