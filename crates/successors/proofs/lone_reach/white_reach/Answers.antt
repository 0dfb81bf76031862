-- `successors::white_reach` meets its contract.
use mathlib.Core.Path.{refl}
use Rattle.successors.proofs.laws.LoneReach.{white-reaches}
use Rattle.successors.proofs.lone_reach.white_reach.Goals as goal

pub returns : goal.returns
returns c =
    λ w h e. white-reaches _ _ w h e _ _ _ _ _ c.one.ensures c.one-2.ensures c.one-3.ensures c.one.type_inv c.one-2.type_inv c.one-3.type_inv refl refl
    _ _ _ _ _ _ c.targets.ensures c.minus-free.ensures c.targets-2.ensures c.minus.ensures c.targets-3.ensures c.minus-2.ensures
    c.minus-2.type_inv
