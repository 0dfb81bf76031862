-- `retracting::lone_men` meets its contract.
use Rattle.retracting.proofs.places.lone_men.Goals as goal

pub returns : goal.returns
returns c = simp c.again.ensures
