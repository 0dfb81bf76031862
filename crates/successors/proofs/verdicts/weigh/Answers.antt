-- `successors::weigh` meets its contract.
use Rattle.successors.proofs.laws.PlaceVerdicts.{to-reaches}
use Rattle.successors.proofs.verdicts.weigh.Goals as goal

pub returns : goal.returns
returns c =
    λ w. let r = to-reaches _ _ _ (c.reach_of-reach.ensures w) in
    c.weighed_by.ensures _ _ _ r (c.judge.ensures w r)
