-- `filling::take_step` meets its contract.
use Rattle.filling.proofs.laws.Handed.{step-one}
use Rattle.filling.proofs.taking.take_step.Goals as goal

pub returns : goal.returns
returns c = step-one _ _ _ _ _ _ _ c.step_with.ensures
