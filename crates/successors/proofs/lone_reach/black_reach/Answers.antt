-- `successors::black_reach` meets its contract.
use mathlib.Core.Path.{refl}
use Rattle.successors.proofs.laws.LoneReach.{black-reaches}
use Rattle.successors.proofs.lone_reach.black_reach.Goals as goal

pub returns : goal.returns
returns c =
    λ w h e. black-reaches _ _ w h e _ _ _ _ c.one.ensures c.one-2.ensures c.one-3.ensures c.one.type_inv c.one-2.type_inv refl
    _ c.targets-strike.ensures _ _ _ _ c.targets.ensures c.minus-free.ensures c.targets-2.ensures c.minus.ensures
